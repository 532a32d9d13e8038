-- What the clusters of some names make, one name after another.
use Rattle.std.proofs.Common.{◌≡◌, inl, inr, ℕ, ◌+◌, ◌<◌, ◌≤◌, List, [], ◌∷◌, length, get_or, take, ap, sym, subst, ◌∙◌, arith}
use Rattle.std.specs.Prelude.{All, AllPairs, Contains, map}
use Rattle.std.proofs.lemmas.List.{take_all, take_more}
use Rattle.std.proofs.lemmas.List.Elements.{All-contains, Contains-append_cases, Contains-get_or}
use Rattle.sk_base.specs.declared.Name.{Name}
use Rattle.sk_base.specs.ClusterNames.{is_named}
use Rattle.sk_base.specs.Numbering.{elem_number, con_number}
use Rattle.sk_base.proofs.Members.{contains_none, contains_one, contains_mapped, contains_filtered, mapped_from, filtered_from}
use Rattle.sk_base.proofs.Unions.{rising_none}
use Rattle.sk_family.specs.declared.cluster.Cluster.{Cluster}
use Rattle.sk_family.specs.Body.{Body, IsRisingBody, join, nothing}
use Rattle.sk_family.specs.Clusters.{AddsNamed, ByName, body_of, cluster_of, named, made_of, whole_from}
use Rattle.sk_family.proofs.Bodies.{Within, each_within, join_within, left_within, right_within, rising_join, rising_whole, same_within, whole_within, within_along}
use Rattle.sk_family.proofs.Naming.{among_named, named_among, one_by_name}

pub made_rises : (names : List Name) (clusters : List Cluster) → All (λ c. IsRisingBody (body_of c)) clusters → IsRisingBody (made_of names clusters)
made_rises names clusters rise =
    rising_whole (map body_of (named names clusters)) (λ x h. (
    let found = mapped_from body_of (named names clusters) x h in
    subst (λ z. IsRisingBody z) found.2 (All-contains (λ c. IsRisingBody (body_of c)) clusters found.0 rise (filtered_from (λ (d : Cluster). is_named names d.name) clusters found.0 found.1).0)))

-- the body holds the clusters of the names so far, and no more than those of all names
pub record MakesSoFar (names : List Name) (clusters : List Cluster) (so_far : List Name) (b : Body) : Type 0 where
  pub rises : IsRisingBody b
  pub has : (c : Cluster) → Contains clusters c → Contains so_far c.name → Within (body_of c) b
  pub least : (x : Body) → ((c : Cluster) → Contains clusters c → Contains names c.name → Within (body_of c) x) → Within b x

pub makes_nothing : (names : List Name) (clusters : List Cluster) → MakesSoFar names clusters (take 0 names) nothing
makes_nothing names clusters = record {
  rises = record { elements = rising_none elem_number; owned = rising_none con_number };
  has = λ c c_in (k, below, is). absurd (omega arith);
  least = λ x all. record { elements = λ e h. absurd (contains_none e h); owned = λ k h. absurd (contains_none k h) };
}

module _ (names : List Name) (clusters : List Cluster) (by_name : AllPairs ByName clusters) (rise : All (λ c. IsRisingBody (body_of c)) clusters) where
  pub makes_more : (i : ℕ) (d : Name) → i < length names → (old new : Body) → MakesSoFar names clusters (take i names) old → AddsNamed clusters (get_or names i d) old new
      → MakesSoFar names clusters (take (i + 1) names) new
  makes_more i d i_in old new so_far (inl (part, part_in, named, is)) =
      subst (λ b. MakesSoFar names clusters (take (i + 1) names) b) (sym is) (record {
        rises = rising_join (body_of part) old so_far.rises;
        has = λ c c_in h. elim (Contains-append_cases (take i names) (get_or names i d ∷ []) c.name (subst (λ l. Contains l c.name) (take_more names i d i_in) h)) [
          | inl before ↦ within_along (so_far.has c c_in before) (right_within (body_of part) old)
          | inr here ↦ subst (λ (x : Cluster). Within (body_of x) (join (body_of part) old)) (one_by_name clusters by_name part c part_in c_in (named ∙ contains_one (get_or names i d) c.name here)) (left_within (body_of part) old)
        ];
        least = λ x all. join_within (body_of part) old (all part part_in (subst (λ n. Contains names n) (sym named) (Contains-get_or names i d i_in))) (so_far.least x all);
      })
  makes_more i d i_in old new so_far (inr (none, is)) =
      subst (λ b. MakesSoFar names clusters (take (i + 1) names) b) (sym is) (record {
        rises = so_far.rises;
        has = λ c c_in h. elim (Contains-append_cases (take i names) (get_or names i d ∷ []) c.name (subst (λ l. Contains l c.name) (take_more names i d i_in) h)) [
          | inl before ↦ so_far.has c c_in before
          | inr here ↦ absurd (none c c_in (sym (contains_one (get_or names i d) c.name here)))
        ];
        least = so_far.least;
      })

  pub makes_whole : (i : ℕ) → length names ≤ i → (whole : Cluster) (n : Name) → whole.name ≡ n → MakesSoFar names clusters (take i names) (body_of whole) → whole ≡ whole_from n names clusters
  makes_whole i over whole n name_is makes = ap (λ m. cluster_of m (body_of whole)) name_is ∙ ap (λ b. cluster_of n b) body_is
    where
      all : MakesSoFar names clusters names (body_of whole)
      all = subst (λ l. MakesSoFar names clusters l (body_of whole)) (take_all i names over) makes

      body_is : body_of whole ≡ made_of names clusters
      body_is =
          same_within (body_of whole) (made_of names clusters) all.rises (made_rises names clusters rise)
          (all.least (made_of names clusters) (λ c c_in named_in.
          each_within (map body_of (named names clusters)) (body_of c)
          (contains_mapped body_of (named names clusters) c (contains_filtered (λ (d : Cluster). is_named names d.name) clusters c c_in (named_among names c.name named_in)))))
          (whole_within (map body_of (named names clusters)) (λ x x_in. (
          let (c, c_in, is) = mapped_from body_of (named names clusters) x x_in in
          let (was, is_one) = filtered_from (λ (d : Cluster). is_named names d.name) clusters c c_in in
          subst (λ b. Within b (body_of whole)) is (all.has c was (among_named names c.name is_one)))))
