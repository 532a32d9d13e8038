-- Of a list that rises by a number, the items between two places are those of one number.
use Rattle.std.proofs.Common.{◌≡◌, inl, inr, ℕ, ◌+◌, ◌-◌, ◌<◌, ◌≤◌, List, [], ◌∷◌, length, length-drop, get_or, take, drop, ltb, leb, true, false, sym, subst, ◌∙◌, arith}
use Rattle.std.specs.Prelude.{◌↔◌, Contains}
use Rattle.std.specs.List.Sorted.{IsPartitionPoint}
use Rattle.std.proofs.lemmas.Bool.{cases_lt, ltb-true, ltb-false, leb-true, leb-false}
use Rattle.std.proofs.lemmas.List.{get_or-drop}
use Rattle.sk_base.proofs.Splits.{in_take, in_drop, in_either, taken_from, dropped_from}

module _ {X : Type 0} (number : X → ℕ) (t : ℕ) where
  module _ (xs : List X) (first past : ℕ) (low : IsPartitionPoint (λ y. ltb (number y) t ≡ true) (λ y. ltb (number y) t ≡ false) xs first)
      (up : IsPartitionPoint (λ y. leb (number y) t ≡ true) (λ y. leb (number y) t ≡ false) xs past) (first_in : first ≤ length xs) where
    below_first : (k : ℕ) (d : X) → k < first → number (get_or xs k d) < t
    below_first k d before = ltb-true _ t (low.0 k d (omega arith) before)

    from_first : (k : ℕ) (d : X) → first ≤ k → k < length xs → t ≤ number (get_or xs k d)
    from_first k d from k_in = ltb-false _ t (low.1 k d from k_in)

    below_past : (k : ℕ) (d : X) → k < past → number (get_or xs k d) ≤ t
    below_past k d before = leb-true _ t (up.0 k d (omega arith) before)

    from_past : (k : ℕ) (d : X) → past ≤ k → k < length xs → t < number (get_or xs k d)
    from_past k d from k_in = leb-false _ t (up.1 k d from k_in)

    pub in_order_at : X → first ≤ past
    in_order_at d = elim (cases_lt past first) [
      | inl before ↦ (let less = below_first past d before in let more = from_past past d (omega arith) (omega arith) in absurd (omega arith))
      | inr after ↦ after
    ]

    of_number : (x : X) → Contains (take (past - first) (drop first xs)) x → first ≤ past → past ≤ length xs → number x ≡ t
    of_number x h ordered past_in =
        let size : length (drop first xs) ≡ length xs - first = length-drop first xs in
        let (k, below, is) = taken_from (drop first xs) (past - first) x (omega arith) h in
        let at : get_or xs (first + k) x ≡ x = sym (get_or-drop first xs k x) ∙ is in
        let more = subst (λ y. t ≤ number y) at (from_first (first + k) x (omega arith) (omega arith)) in
        let less = subst (λ y. number y ≤ t) at (below_past (first + k) x (omega arith)) in
        omega arith

    of_list : (x : X) → Contains xs x → number x ≡ t → Contains (take (past - first) (drop first xs)) x
    of_list x x_in same = elim (in_either first xs x x_in) [
      | inl front ↦ (
          let (k, below, is) = taken_from xs first x first_in front in
          let less = subst (λ y. number y < t) is (below_first k x below) in
          absurd (omega arith))
      | inr rest ↦ elim (in_either (past - first) (drop first xs) x rest) [
        | inl here ↦ here
        | inr behind ↦ (
            let size : length (drop first xs) ≡ length xs - first = length-drop first xs in
            let (k, from, k_in, is) = dropped_from (drop first xs) (past - first) x behind in
            let at : get_or xs (first + k) x ≡ x = sym (get_or-drop first xs k x) ∙ is in
            let more = subst (λ y. t < number y) at (from_past (first + k) x (omega arith) (omega arith)) in
            absurd (omega arith))
      ]
    ]

    pub between : first ≤ past → past ≤ length xs → (x : X) → Contains (take (past - first) (drop first xs)) x ↔ (Contains xs x × (number x ≡ t))
    between ordered past_in x = (
      (λ h. (in_drop first xs x (in_take (past - first) (drop first xs) x h), of_number x h ordered past_in)),
      (λ (x_in, same). of_list x x_in same),
    )

  pub ordered : (xs : List X) (first past : ℕ) → IsPartitionPoint (λ y. ltb (number y) t ≡ true) (λ y. ltb (number y) t ≡ false) xs first
      → IsPartitionPoint (λ y. leb (number y) t ≡ true) (λ y. leb (number y) t ≡ false) xs past → first ≤ length xs → first ≤ past
  ordered [] first past low up first_in = omega arith
  ordered (x ∷ xs) first past low up first_in = in_order_at (x ∷ xs) first past low up first_in x
