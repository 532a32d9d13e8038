-- What a search by halves finds in a rising list.
use Rattle.std.proofs.Common.{◌≡◌, ◌≢◌, ℕ, ◌<◌, ◌≤◌, List, length, get_or, inl, inr, sym, ap, subst, ◌∙◌, arith}
use Rattle.std.specs.Prelude.{◌==◌, Contains, None, Some, find}
use Rattle.std.specs.List.{HoldsAt}
use Rattle.std.specs.List.Sorted.{IsNonDecreasingBy, IsPartitionPoint}
use Rattle.std.specs.Ordering.{nat_cmp, ordering_index}
use Rattle.std.specs.declared.cmp.Ordering.TheVariants.{Less, Equal, Greater}
use Rattle.std.proofs.lemmas.Bool.{cases_lt}
use Rattle.std.proofs.lemmas.Bool.Decides.{nat_tests}
use Rattle.std.proofs.lemmas.Cmp.{ranked}
use Rattle.std.proofs.lemmas.List.Elements.{Contains-get_or}
use Rattle.sk_base.specs.Rising.{IsRising}
use Rattle.sk_base.proofs.Finding.{found_rising, nothing_found}

-- a rising list falls nowhere
pub rising_up : {X : Type 0} (number : X → ℕ) (xs : List X) → IsRising number xs → IsNonDecreasingBy number xs
rising_up number xs rises i j d le in_range = elim (cases_lt i j) [
  | inl below ↦ (let up : number (get_or xs i d) < number (get_or xs j d) = rises i j d below in_range in omega arith)
  | inr above ↦ (let same : i ≡ j = omega arith in rw same (omega arith))
]

module _ {X : Type 0} (number : X → ℕ) (xs : List X) (n : ℕ) where
  -- an item that is found has the number
  pub number_found : (i : ℕ) → HoldsAt (λ y. nat_cmp (number y) n ≡ Equal) xs i → (d : X) → number (get_or xs i d) ≡ n
  number_found i equal d = ranked _ n _ (sym (equal d))

  comparisons_rise : IsRising number xs → IsNonDecreasingBy (λ y. ordering_index (nat_cmp (number y) n)) xs
  comparisons_rise rises i j d le in_range =
      elim (cases_lt i j) [
        | inl below ↦ (let up : number (get_or xs i d) < number (get_or xs j d) = rises i j d below in_range in grind (arith, nat_tests))
        | inr above ↦ (
            let same : i ≡ j = omega arith in
            subst (λ k. ordering_index (nat_cmp (number (get_or xs i d)) n) ≤ ordering_index (nat_cmp (number (get_or xs k d)) n)) same (omega arith))
      ]

  -- where none is found in a rising list, none has the number
  pub none_missed : IsRising number xs → (i : ℕ) → (IsNonDecreasingBy (λ y. ordering_index (nat_cmp (number y) n)) xs → IsPartitionPoint (λ y. nat_cmp (number y) n ≡ Less) (λ y. nat_cmp (number y) n ≡ Greater) xs i)
      → (x : X) → Contains xs x → number x ≡ n → ⊥
  none_missed rises i parted x (k, k_in, is) same =
      let here : number (get_or xs k x) ≡ n = ap number is ∙ same in
      elim (cases_lt k i) [
        | inl below ↦ (let less : number (get_or xs k x) < n = ranked _ n _ (sym ((parted (comparisons_rise rises)).0 k x (omega arith) below)) in omega arith)
        | inr above ↦ (let more : n < number (get_or xs k x) = ranked _ n _ (sym ((parted (comparisons_rise rises)).1 k x above k_in)) in omega arith)
      ]

  -- it is the first with its number
  pub found_first : IsRising number xs → (i : ℕ) → i < length xs → HoldsAt (λ y. nat_cmp (number y) n ≡ Equal) xs i → (d : X) → find (λ y. number y == n) xs ≡ Some (get_or xs i d)
  found_first rises i i_in equal d =
      subst (λ k. find (λ y. number y == k) xs ≡ Some (get_or xs i d)) (number_found i equal d) (found_rising number xs rises (get_or xs i d) (Contains-get_or xs i d i_in))

  -- where none is found by halves, none has the number
  pub none_first : IsRising number xs → (i : ℕ) → (IsNonDecreasingBy (λ y. ordering_index (nat_cmp (number y) n)) xs → IsPartitionPoint (λ y. nat_cmp (number y) n ≡ Less) (λ y. nat_cmp (number y) n ≡ Greater) xs i)
      → find (λ y. number y == n) xs ≡ None
  none_first rises i parted = nothing_found (λ y. number y == n) xs (λ x x_in. (let other : number x ≢ n = none_missed rises i parted x x_in in grind (arith, nat_tests)))
