-- What stands before a merge in a list of joins, and trees in longer lists.
use Rattle.std.proofs.Common.{◌≡◌, ℕ, ◌<◌, List, [], ◌∷◌, ◌++◌, length, get_or, take, drop, drop-cons, suc, ap, sym, subst, ◌∙◌, append_assoc}
use Rattle.std.specs.Prelude.{Contains, slice_get, Some}
use Rattle.std.proofs.lemmas.Option.{slice_get-get_or, same_Some}
use Rattle.std.proofs.lemmas.List.{take-append-drop}
use Rattle.std.proofs.lemmas.List.Elements.{Contains-append_left, Contains-get_or}
use Rattle.sk_base.specs.declared.Name.{Name}
use Rattle.sk_base.proofs.Members.{contains_head, contains_later}
use Rattle.sk_rules.specs.declared.Taken.{Taken}
use Rattle.sk_family.specs.declared.Merge.TheVariants.{Two, Three}
use Rattle.sk_family.specs.Merges.{names_of}
use Rattle.sk_tree.specs.declared.tree.Tree.{Tree}
use Rattle.sk_tree.specs.declared.tree.Tree.TheVariants.{Leaf, Join'}
use Rattle.sk_tree.specs.Trees.{IsTreeOf, IsMade, AreJoins}

pub first_of : (taken : List Taken) (i : ℕ) (t : Taken) → Contains (take i taken) t → Contains taken t
first_of taken i t h =
    subst (λ ts. Contains ts t) (take-append-drop i taken) (Contains-append_left (take i taken) (drop i taken) t h)

module _ (taken : List Taken) (i : ℕ) (joins : AreJoins taken) where
  pub joins_before : AreJoins (take i taken)
  joins_before = record {
    triples = λ t h. joins.triples t (first_of taken i t h);
    made_before = λ before after t is. joins.made_before before (after ++ drop i taken) t (
        sym (take-append-drop i taken) ∙ ap (λ ts. ts ++ drop i taken) is ∙ append_assoc before (t ∷ after) (drop i taken));
  }

  module _ (d : Taken) (inside : i < length taken) where
    split_at : taken ≡ take i taken ++ get_or taken i d ∷ drop (suc i) taken
    split_at = sym (take-append-drop i taken) ∙ ap (λ ts. take i taken ++ ts) (drop-cons taken i d inside)

    pub child_made : (x y z : Name) → (get_or taken i d).merge ≡ Three x y z → (n : Name) → Contains (x ∷ y ∷ z ∷ []) n → IsMade (take i taken) n
    child_made x y z is n n_in =
        joins.made_before (take i taken) (drop (suc i) taken) (get_or taken i d) split_at n
        (subst (λ m. Contains (names_of m) n) (sym is) n_in)

    pub never_two : (x y : Name) → (get_or taken i d).merge ≡ Two x y → ⊥
    never_two x y is = (let triple = joins.triples (get_or taken i d) (Contains-get_or taken i d inside) in
        let never : Two x y ≡ Three triple.0 triple.1 triple.2 = sym is ∙ triple.3 in absurd (cc))

-- a tree in some merges is one in all
pub tree_within : (some all : List Taken) → ((t : Taken) → Contains some t → Contains all t) → (n : Name) (t : Tree) → IsTreeOf some n t → IsTreeOf all n t
tree_within some all within n (Leaf c) h = h
tree_within some all within n (Join' p step shared one two three) (is, (x, y, z, there, a, b, c)) =
    (is, (x, y, z, within _ there, tree_within some all within x one a, tree_within some all within y two b, tree_within some all within z three c))

pub tree_before : (taken : List Taken) (i : ℕ) (n : Name) (t : Tree) → IsTreeOf (take i taken) n t → IsTreeOf taken n t
tree_before taken i = tree_within (take i taken) taken (first_of taken i)

pub first_three : (x y z : Name) → Contains (x ∷ y ∷ z ∷ []) x
first_three x y z = contains_head x (y ∷ z ∷ [])

pub second_three : (x y z : Name) → Contains (x ∷ y ∷ z ∷ []) y
second_three x y z = contains_later x (y ∷ z ∷ []) y (contains_head y (z ∷ []))

pub third_three : (x y z : Name) → Contains (x ∷ y ∷ z ∷ []) z
third_three x y z = contains_later x (y ∷ z ∷ []) z (contains_later y (z ∷ []) z (contains_head z []))

module _ (taken : List Taken) (i : ℕ) (d : Taken) (inside : i < length taken) where
  pub merge_there : (x y z : Name) → (get_or taken i d).merge ≡ Three x y z → Contains taken (record { step = (get_or taken i d).step; merge = Three x y z; shared = (get_or taken i d).shared })
  merge_there x y z is =
      subst (λ m. Contains taken (record { step = (get_or taken i d).step; merge = m; shared = (get_or taken i d).shared })) is (Contains-get_or taken i d inside)

  pub named_at : (name : Name) → ((t : Taken) × (slice_get taken i ≡ Some t) × (t.step ≡ name)) → name ≡ (get_or taken i d).step
  named_at name (t, found, is) =
      let same : t ≡ get_or taken i d = same_Some _ _ (sym found ∙ slice_get-get_or taken i d inside) in
      sym is ∙ ap (λ (u : Taken). u.step) same
