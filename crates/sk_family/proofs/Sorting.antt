-- Clusters of different names that are sorted stand in order.
use Rattle.std.proofs.Common.{◌≡◌, ◌≢◌, ◌⊎◌, inl, inr, ℕ, zero, suc, ◌+◌, ◌<◌, Bool, true, false, List, length, get_or, refl, ap, sym, subst, arith, add-one}
use Rattle.std.specs.Prelude.{AllPairs}
use Rattle.std.specs.List.{swap}
use Rattle.std.specs.Cmp.{IsStrictWeakOrder}
use Rattle.std.specs.Ordering.{is_lt}
use Rattle.std.specs.List.Sorted.{IsPermutation, IsSortedBy}
use Rattle.std.proofs.lemmas.List.Edits.{swapped_from_swap, length-swap}
use Rattle.std.proofs.lemmas.List.Sorted.{IsPermutation-keeps, ranks_by}
use Rattle.std.proofs.lemmas.Map.Keys.{ge_from_not_lt}
use Rattle.sk_base.specs.declared.Name.{Name}
use Rattle.sk_base.specs.declared.Name.TheVariants.{Con, Step}
use Rattle.sk_base.specs.ClusterNames.{IsBelow}
use Rattle.sk_base.specs.contracts.name.NameOrd.TheImpl as names
use Rattle.sk_base.proofs.Unions.{which}
use Rattle.sk_family.specs.declared.cluster.Cluster.{Cluster}
use Rattle.sk_family.proofs.Naming.{ByName, below_chain}

module _ {X : Type 0} (R : X → X → Type 0) (back : (x y : X) → R x y → R y x) where
  abbrev pub AnyTwo : List X → Type 0
  AnyTwo xs = (i j : ℕ) (d : X) → i ≢ j → i < length xs → j < length xs → R (get_or xs i d) (get_or xs j d)

  any_two : (xs : List X) → AllPairs R xs → AnyTwo xs
  any_two xs r i j d differ i_in j_in =
      elim (which i j) [
        | inl less ↦ r i j d less j_in
        | inr (inl same) ↦ absurd (differ same)
        | inr (inr more) ↦ back (get_or xs j d) (get_or xs i d) (r j i d more i_in)
      ]

  -- where the item at a place was before two were exchanged
  abbrev CameFrom : ℕ → ℕ → ℕ → ℕ → Type 0
  CameFrom a b k m = ((k ≡ a) × (m ≡ b)) ⊎ (((k ≡ b) × (m ≡ a)) ⊎ ((k ≢ a) × (k ≢ b) × (m ≡ k)))

  came_from : (xs : List X) (a b : ℕ) (d : X) → a < length xs → b < length xs → (k : ℕ) → k < length xs → (m : ℕ) × (m < length xs) × (get_or xs m d ≡ get_or (swap xs a b) k d) × CameFrom a b k m
  came_from xs a b d a_in b_in k k_in =
      let s = swapped_from_swap xs (swap xs a b) a b d a_in b_in refl in
      elim (which k a) [
        | inr (inl first) ↦ (b, b_in, subst (λ i. get_or xs b d ≡ get_or (swap xs a b) i d) (sym first) (sym s.0), inl (first, refl))
        | inl less ↦ elim (which k b) [
          | inr (inl second) ↦ (a, a_in, subst (λ i. get_or xs a d ≡ get_or (swap xs a b) i d) (sym second) (sym s.1), inr (inl (second, refl)))
          | inl less_2 ↦ (k, k_in, sym (s.2 k (λ e. omega arith) (λ e. omega arith)), inr (inr ((λ e. omega arith), (λ e. omega arith), refl)))
          | inr (inr more_2) ↦ (k, k_in, sym (s.2 k (λ e. omega arith) (λ e. omega arith)), inr (inr ((λ e. omega arith), (λ e. omega arith), refl)))
        ]
        | inr (inr more) ↦ elim (which k b) [
          | inr (inl second) ↦ (a, a_in, subst (λ i. get_or xs a d ≡ get_or (swap xs a b) i d) (sym second) (sym s.1), inr (inl (second, refl)))
          | inl less_2 ↦ (k, k_in, sym (s.2 k (λ e. omega arith) (λ e. omega arith)), inr (inr ((λ e. omega arith), (λ e. omega arith), refl)))
          | inr (inr more_2) ↦ (k, k_in, sym (s.2 k (λ e. omega arith) (λ e. omega arith)), inr (inr ((λ e. omega arith), (λ e. omega arith), refl)))
        ]
      ]

  from_two : (a b i j m n : ℕ) → CameFrom a b i m → CameFrom a b j n → m ≡ n → i ≡ j
  from_two a b i j m n p q same = grind arith

  swapped_two : (xs : List X) (a b : ℕ) → a < length xs → b < length xs → AnyTwo xs → AnyTwo (swap xs a b)
  swapped_two xs a b a_in b_in two i j d differ i_in j_in =
      let size = length-swap xs a b in
      let first = came_from xs a b d a_in b_in i (omega arith) in
      let second = came_from xs a b d a_in b_in j (omega arith) in
      subst (λ y. R (get_or (swap xs a b) i d) y) second.2
      (subst (λ x. R x (get_or xs second.0 d)) first.2
      (two first.0 second.0 d (λ same. differ (from_two a b i j first.0 second.0 first.3 second.3 same)) first.1 second.1))

  -- what holds of each two, both ways, holds in every other order
  pub two_in_any_order : (xs ys : List X) → IsPermutation xs ys → AllPairs R xs → AnyTwo ys
  two_in_any_order xs ys same r = IsPermutation-keeps xs AnyTwo (any_two xs r) swapped_two ys same

abbrev pub HaveOtherNames : Cluster → Cluster → Type 0
HaveOtherNames a b = a.name ≢ b.name

-- a name that isn't behind another one is below it, or is that one
below_unless : (m n : Name) → is_lt (names.ghosts.cmp n m) ≡ false → m ≢ n → IsBelow m n
below_unless (Con j) (Con k) not differ = (let far = ge_from_not_lt k j not in let other : j ≢ k = λ e. differ (ap Con e) in omega arith)
below_unless (Con j) (Step k) not differ = tt
below_unless (Step j) (Con k) not differ = (let never : true ≡ false = not in absurd (cc))
below_unless (Step j) (Step k) not differ = (let far = ge_from_not_lt k j not in let other : j ≢ k = λ e. differ (ap Step e) in omega arith)

abbrev pub comes_before : Cluster → Cluster → Bool
comes_before a b = is_lt (names.ghosts.cmp a.name b.name)

pub before_orders : IsStrictWeakOrder comes_before
before_orders = ranks_by names.Laws.total-law (λ (c : Cluster). c.name)

module _ (xs : List Cluster) (differ : AnyTwo HaveOtherNames (λ a b h e. h (sym e)) xs) (sorted : IsSortedBy comes_before xs) where
  next_behind : (k : ℕ) (d : Cluster) → k + 1 < length xs → ByName (get_or xs k d) (get_or xs (k + 1) d)
  next_behind k d k_in =
      below_unless (get_or xs k d).name (get_or xs (k + 1) d).name (sorted k d (omega arith) k_in) (differ k (k + 1) d (λ e. omega arith) (omega arith) k_in)

  pub sorted_rises : AllPairs ByName xs
  sorted_rises i zero d i_j j_in = absurd (omega arith)
  sorted_rises i (suc j) d i_j j_in =
      elim (which i j) [
        | inl less ↦ below_chain (get_or xs i d).name (get_or xs j d).name (get_or xs (suc j) d).name (sorted_rises i j d less (omega arith)) (next (omega arith))
        | inr (inl same) ↦ subst (λ k. ByName (get_or xs k d) (get_or xs (suc j) d)) (sym same) (next (omega arith))
        | inr (inr more) ↦ absurd (omega arith)
      ]
    where
      next : suc j < length xs → ByName (get_or xs j d) (get_or xs (suc j) d)
      next in_xs = (let behind : ByName (get_or xs j d) (get_or xs (j + 1) d) = next_behind j d (omega arith) in rw add-one at behind)
