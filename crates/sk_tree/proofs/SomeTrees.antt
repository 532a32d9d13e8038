-- Each name that joins make has a tree.
use Rattle.std.proofs.Common.{◌≡◌, inl, inr, ℕ, ◌≤◌, List, [], ◌∷◌, ◌++◌, length, length-append, refl, ap, sym, subst, ◌∙◌, append_assoc, arith, suc, zero, Box, Global}
use denote.RawPtr.{null_ptr}
use Rattle.std.specs.Prelude.{Contains}
use Rattle.std.proofs.lemmas.List.{append-nil}
use Rattle.std.proofs.lemmas.List.Elements.{Contains-append_right}
use Rattle.sk_base.specs.declared.Name.{Name}
use Rattle.sk_base.specs.declared.Name.TheVariants.{Con, Step}
use Rattle.sk_base.proofs.Members.{contains_none, contains_head, contains_cases}
use Rattle.sk_rules.specs.declared.Taken.{Taken}
use Rattle.sk_family.specs.declared.Merge.{Merge}
use Rattle.sk_family.specs.declared.Merge.TheVariants.{Three}
use Rattle.sk_family.specs.Merges.{names_of}
use Rattle.sk_tree.specs.declared.tree.Tree.{Tree}
use Rattle.sk_tree.specs.declared.tree.Tree.TheVariants.{Leaf, Join'}
use Rattle.sk_tree.specs.Trees.{IsTreeOf, IsMade, AreJoins}
use Rattle.sk_tree.proofs.Joins.{first_three, second_three, third_three}

-- a join in memory stands at some address, and nothing is said of it
nowhere : Box (Unit {0}) Global
nowhere = record { ptr = null_ptr; alloc = record { memory = record { seal = tt } }; value = tt }

split_at : (ts : List Taken) (t : Taken) → Contains ts t → (before : List Taken) × (after : List Taken) × (ts ≡ before ++ t ∷ after)
split_at [] t h = absurd (contains_none t h)
split_at (u ∷ ts) t h =
    elim (contains_cases u ts t h) [
      | inl here ↦ ([], ts, ap (λ x. x ∷ ts) here)
      | inr later ↦ (let rest = split_at ts t later in (u ∷ rest.0, rest.1, ap (λ xs. u ∷ xs) rest.2))
    ]

module _ (taken : List Taken) (joins : AreJoins taken) where
  -- by the number of merges that stand before
  some_tree : (most : ℕ) (before after : List Taken) → length before ≤ most → taken ≡ before ++ after → (n : Name) → IsMade before n → (t : Tree) × IsTreeOf taken n t
  some_tree most before after few parts (Con k) made = (Leaf (record { 0 = k }), refl)
  some_tree zero before after few parts (Step k) (t, t_in, is) =
      let split = split_at before t t_in in
      let size = ap (λ (ts : List Taken). length ts) split.2 in absurd (omega (arith, length-append split.0 (t ∷ split.1)))
  some_tree (suc most) before after few parts (Step k) (t, t_in, is) =
      let split = split_at before t t_in in
      let size = ap (λ (ts : List Taken). length ts) split.2 in
      let there : taken ≡ split.0 ++ t ∷ (split.1 ++ after) = parts ∙ ap (λ (ts : List Taken). ts ++ after) split.2 ∙ append_assoc split.0 (t ∷ split.1) after in
      let t_there : Contains taken t = subst (λ (ts : List Taken). Contains ts t) (sym there) (Contains-append_right split.0 (t ∷ (split.1 ++ after)) t (contains_head t (split.1 ++ after))) in
      let triple = joins.triples t t_there in
      let made : (m : Name) → Contains (triple.0 ∷ triple.1 ∷ triple.2 ∷ []) m → IsMade split.0 m =
      λ m m_in. joins.made_before split.0 (split.1 ++ after) t there m (subst (λ (merge : Merge). Contains (names_of merge) m) (sym triple.3) m_in) in
      let short : length split.0 ≤ most = omega (arith, length-append split.0 (t ∷ split.1), size, few) in
      let one = some_tree most split.0 (t ∷ (split.1 ++ after)) short there triple.0 (made triple.0 (first_three triple.0 triple.1 triple.2)) in
      let two = some_tree most split.0 (t ∷ (split.1 ++ after)) short there triple.1 (made triple.1 (second_three triple.0 triple.1 triple.2)) in
      let three = some_tree most split.0 (t ∷ (split.1 ++ after)) short there triple.2 (made triple.2 (third_three triple.0 triple.1 triple.2)) in
      let told : Contains taken (record { step = t.step; merge = Three triple.0 triple.1 triple.2; shared = t.shared }) =
      subst (λ (merge : Merge). Contains taken (record { step = t.step; merge = merge; shared = t.shared })) triple.3 t_there in
      (Join' (nowhere) t.step t.shared one.0 two.0 three.0, (sym is, (triple.0, triple.1, triple.2, told, one.1, two.1, three.1)))

  made_by : (t : Taken) → Contains taken t → (n : Name) → t.step ≡ n → IsMade taken n
  made_by t t_in (Con k) is = tt
  made_by t t_in (Step k) is = (t, t_in, is)

  -- a merge that is taken has a tree
  pub tree_of_taken : (t : Taken) → Contains taken t → (tree : Tree) × IsTreeOf taken t.step tree
  tree_of_taken t t_in = some_tree (length taken) taken [] (omega arith) (sym (append-nil taken)) t.step (made_by t t_in t.step refl)
