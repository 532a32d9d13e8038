-- What the elements and the owned constraints of some clusters make together.
use Rattle.std.proofs.Common.{◌≡◌, inl, inr, List, [], ◌∷◌, ◌++◌, ap, sym, subst, ◌∙◌}
use Rattle.std.specs.Prelude.{All, Contains, map}
use Rattle.std.specs.List.{flat_map}
use Rattle.std.proofs.lemmas.List.{flat_map_more}
use Rattle.std.proofs.lemmas.List.Elements.{Contains-append_cases, Contains-append_left, Contains-append_right}
use Rattle.sk_base.specs.declared.Name.{Name}
use Rattle.sk_base.proofs.Members.{contains_none, contains_head, contains_later, contains_cases, contains_mapped, mapped_from}
use Rattle.sk_family.specs.declared.cluster.Cluster.{Cluster}
use Rattle.sk_family.specs.Body.{IsRisingBody}
use Rattle.sk_family.specs.Clusters.{body_of, cluster_of, named, made_of, whole_from}
use Rattle.sk_family.specs.Joining.{HaveTheSame}
use Rattle.sk_family.proofs.Bodies.{Within, each_within, same_within, whole_within}
use Rattle.sk_family.proofs.Wholes.{made_rises}

module _ {X A : Type 0} (f : X → List A) where
  in_flat : (xs : List X) (x : X) (a : A) → Contains xs x → Contains (f x) a → Contains (flat_map f xs) a
  in_flat [] x a x_in a_in = absurd (contains_none x x_in)
  in_flat (y ∷ xs) x a x_in a_in =
      elim (contains_cases y xs x x_in) [
        | inl here ↦ Contains-append_left (f y) (flat_map f xs) a (subst (λ z. Contains (f z) a) (sym here) a_in)
        | inr later ↦ Contains-append_right (f y) (flat_map f xs) a (in_flat xs x a later a_in)
      ]

  flat_from : (xs : List X) (a : A) → Contains (flat_map f xs) a → (x : X) × Contains xs x × Contains (f x) a
  flat_from [] a h = absurd (contains_none a h)
  flat_from (y ∷ xs) a h =
      elim (Contains-append_cases (f y) (flat_map f xs) a h) [
        | inl here ↦ (y, contains_head y xs, here)
        | inr later ↦ (let (x, x_in, a_in) = flat_from xs a later in (x, contains_later y xs x x_in, a_in))
      ]

-- one list more behind the others
pub flat_more : {X A : Type 0} (f : X → List A) (all some : List X) (x y : X) (made before : List A) → all ≡ some ++ y ∷ [] → x ≡ y → before ≡ flat_map f some → made ≡ before ++ f x → made ≡ flat_map f all
flat_more f all some x y made before all_are same before_is made_is =
    made_is ∙ ap (λ l. l ++ f x) before_is ∙ ap (λ z. flat_map f some ++ f z) same ∙ flat_map_more f [] some y ∙ ap (λ l. flat_map f l) (sym all_are)

pub gathered_whole : (names : List Name) (clusters : List Cluster) → All (λ c. IsRisingBody (body_of c)) clusters → (whole : Cluster) (n : Name) → whole.name ≡ n → IsRisingBody (body_of whole)
    → HaveTheSame (flat_map (λ (c : Cluster). c.elements) (named names clusters)) whole.elements → HaveTheSame (flat_map (λ (c : Cluster). c.owned) (named names clusters)) whole.owned
    → whole ≡ whole_from n names clusters
gathered_whole names clusters rise whole n name_is rises elements owned = ap (λ m. cluster_of m (body_of whole)) name_is ∙ ap (λ b. cluster_of n b) body_is
  where
    these : List Cluster
    these = named names clusters

    within_made : (c : Cluster) → Contains these c → Within (body_of c) (made_of names clusters)
    within_made c c_in = each_within (map body_of these) (body_of c) (contains_mapped body_of these c c_in)

    body_is : body_of whole ≡ made_of names clusters
    body_is =
        same_within (body_of whole) (made_of names clusters) rises (made_rises names clusters rise)
        (record {
          elements = λ e h. (let (c, c_in, e_in) = flat_from (λ (c : Cluster). c.elements) these e ((elements e).1 h) in (within_made c c_in).elements e e_in);
          owned = λ k h. (let (c, c_in, k_in) = flat_from (λ (c : Cluster). c.owned) these k ((owned k).1 h) in (within_made c c_in).owned k k_in);
        })
        (whole_within (map body_of these) (λ x x_in. (
        let (c, c_in, is) = mapped_from body_of these x x_in in
        subst (λ b. Within b (body_of whole)) is (record {
          elements = λ e h. (elements e).0 (in_flat (λ (c : Cluster). c.elements) these c e c_in h);
          owned = λ k h. (owned k).0 (in_flat (λ (c : Cluster). c.owned) these c k c_in h);
        }))))
