-- Items of a list in order of number, and what stands at the place of a number.
use Rattle.std.proofs.Common.{◌≡◌, ◌≢◌, inl, inr, ℕ, zero, suc, ◌<◌, ◌==◌, true, false, cond, List, [], ◌∷◌, ◌++◌, length, get_or, refl, ap, sym, subst, ◌∙◌, arith}
use Rattle.std.specs.Prelude.{Contains, map, not, insert, remove, slice_set}
use Rattle.std.proofs.lemmas.Bool.Decides.{nat_tests}
use Rattle.std.proofs.lemmas.List.{get_or_default}
use Rattle.sk_base.specs.Rising.{IsRising}
use Rattle.std.proofs.lemmas.List.Elements.{Contains-push, Contains-push_cases, Contains-append_left}
use Rattle.sk_base.proofs.Members.{contains_head, contains_later, contains_filtered, filtered_from}
use Rattle.sk_base.proofs.Pairs.{pairs_tail, pairs_head, pairs_push, pairs_filter}
use Rattle.sk_base.proofs.Unions.{which, rising_apart, rising_same}
use Rattle.sk_base.proofs.Filters.{filter_keeps}
use Rattle.sk_base.proofs.Numbers.{other_passes, same_fails, passes_differ}
use Rattle.sk_base.proofs.Splits.{taken_from, dropped_from, in_inserted, pairs_inserted}
use Rattle.sk_edits.specs.Changes.{IsPlaceOf, HasItem, without, with_item}

pub same_all : {X : Type 0} (f : X → X) (xs : List X) → ((x : X) → Contains xs x → f x ≡ x) → map f xs ≡ xs
same_all f [] same = refl
same_all f (x ∷ xs) same = (let here = same x (contains_head x xs) in let rest = same_all f xs (λ y h. same y (contains_later x xs y h)) in cc)

module _ {X : Type 0} (number : X → ℕ) where
  -- the item at the place of the number, taken out
  pub removed : (xs : List X) (i n : ℕ) (d : X) → IsRising number xs → i < length xs → number (get_or xs i d) ≡ n → remove xs i ≡ without number n xs
  removed [] i n d rises i_in is = absurd (omega arith)
  removed (x ∷ xs) zero n d rises i_in is =
      rw (same_fails (number x) n is)
      (sym (filter_keeps (λ y. not (number y == n)) xs (λ y y_in. other_passes (number y) n (λ same. (let less = pairs_head (λ a b. number a < number b) x xs rises y y_in in omega arith)))))
  removed (x ∷ xs) (suc i) n d rises i_in is =
      let less : number x < number (get_or xs i d) = pairs_head (λ a b. number a < number b) x xs rises (get_or xs i d) (i, omega arith, get_or_default xs i (get_or xs i d) d (omega arith)) in
      rw (other_passes (number x) n (λ same. omega arith))
      (ap (λ ys. x ∷ ys) (removed xs i n d (pairs_tail (λ a b. number a < number b) x xs rises) (omega arith) is))

  -- another item in its place
  pub replaced : (xs : List X) (i : ℕ) (item d : X) → IsRising number xs → i < length xs → number (get_or xs i d) ≡ number item → slice_set xs i item ≡ with_item number item xs
  replaced [] i item d rises i_in is = absurd (omega arith)
  replaced (x ∷ xs) zero item d rises i_in is =
      let here : (number x == number item) ≡ true = grind (arith, nat_tests) in
      rw here
      (ap (λ ys. item ∷ ys) (sym (same_all (λ y. cond (number y == number item) item y) xs (λ y y_in. (
      let less = pairs_head (λ a b. number a < number b) x xs rises y y_in in
      let other : (number y == number item) ≡ false = grind (arith, nat_tests) in rw other)))))
  replaced (x ∷ xs) (suc i) item d rises i_in is =
      let less : number x < number (get_or xs i d) = pairs_head (λ a b. number a < number b) x xs rises (get_or xs i d) (i, omega arith, get_or_default xs i (get_or xs i d) d (omega arith)) in
      let other : (number x == number item) ≡ false = grind (arith, nat_tests) in
      rw other
      (ap (λ ys. x ∷ ys) (replaced xs i item d (pairs_tail (λ a b. number a < number b) x xs rises) (omega arith) is))

  module _ (xs : List X) (rises : IsRising number xs) (n place : ℕ) (is_place : IsPlaceOf number xs n place) where
    pub stands : (x : X) → Contains xs x → number x ≡ n → (place < length xs) × (get_or xs place x ≡ x)
    stands x (i, i_in, is) same =
        let level : number (get_or xs i x) ≡ n = ap number is ∙ same in
        elim (which i place) [
          | inl less ↦ absurd (let below = is_place.before i x less in omega arith)
          | inr (inl equal) ↦ (omega arith, subst (λ k. get_or xs k x ≡ x) equal is)
          | inr (inr more) ↦ absurd (let above = is_place.behind x (omega arith) in let rising = rises place i x more i_in in omega arith)
        ]

    module _ (item : X) (is : number item ≡ n) (other : (x : X) → Contains xs x → number x ≢ number item) where
      pub put_rises : IsRising number (insert xs place item)
      put_rises =
          pairs_inserted (λ x y. number x < number y) xs place item rises
          (λ x h. (let found = taken_from xs place x is_place.bound h in let less = is_place.before found.0 x found.1 in let same = ap number found.2 in omega arith))
          (λ x h. (
          let found = dropped_from xs place x h in
          let at_place = is_place.behind x (omega (arith, found.1, found.2)) in
          let same = ap number found.3 in
          let x_in : Contains xs x = (found.0, found.2, found.3) in
          let differs = other x x_in in
          elim (which place found.0) [
            | inl less ↦ (let rising = rises place found.0 x less found.2 in omega arith)
            | inr (inl equal) ↦ (let level = ap (λ k. number (get_or xs k x)) equal in omega arith)
            | inr (inr more) ↦ absurd (omega (arith, more, found.1))
          ]))

  pub put_has : (xs : List X) (place : ℕ) (item : X) → HasItem item xs (insert xs place item)
  put_has xs place item x = in_inserted xs place item x

-- items put, taken out and put back
module _ {X : Type 0} (number : X → ℕ) where
  abbrev pub ByNumber : X → X → Type 0
  ByNumber x y = number x < number y

  -- what is put and taken out again
  pub taken_back : (item : X) (xs ys : List X) → IsRising number xs → IsRising number ys → HasItem item xs ys → ((x : X) → Contains xs x → number x ≢ number item) → without number (number item) ys ≡ xs
  taken_back item xs ys r s put other =
      rising_same number (without number (number item) ys) xs (pairs_filter ByNumber (λ x. not (number x == number item)) ys s) r
      (λ z h. (
      let was = filtered_from (λ x. not (number x == number item)) ys z h in
      elim ((put z).0 was.0) [
        | inl is ↦ absurd (passes_differ (number z) (number item) was.1 (ap number (sym is)))
        | inr old ↦ old
      ]))
      (λ z h. contains_filtered (λ x. not (number x == number item)) ys z ((put z).1 (inr h)) (other_passes (number z) (number item) (other z h)))

  -- an item above all others is put at the end
  pub put_last : (item : X) (xs ys : List X) → IsRising number xs → IsRising number ys → HasItem item xs ys → ((x : X) → Contains xs x → number x < number item) → ys ≡ xs ++ item ∷ []
  put_last item xs ys r s put above =
      rising_same number ys (xs ++ item ∷ []) s (pairs_push ByNumber xs item r above)
      (λ z h. elim ((put z).0 h) [
        | inl is ↦ subst (λ w. Contains (xs ++ item ∷ []) w) is (Contains-push xs item)
        | inr old ↦ Contains-append_left xs (item ∷ []) z old
      ])
      (λ z h. elim (Contains-push_cases xs item z h) [
        | inl old ↦ (put z).1 (inr old)
        | inr is ↦ (put z).1 (inl is)
      ])

  -- what is taken out and put again
  pub put_back : (item : X) (xs ys : List X) → IsRising number xs → IsRising number ys → Contains xs item → HasItem item (without number (number item) xs) ys → ys ≡ xs
  put_back item xs ys r s item_in put =
      rising_same number ys xs s r
      (λ z h. elim ((put z).0 h) [
        | inl is ↦ subst (λ w. Contains xs w) is item_in
        | inr old ↦ (filtered_from (λ x. not (number x == number item)) xs z old).0
      ])
      (λ z h. elim (which (number z) (number item)) [
        | inl less ↦ (put z).1 (inr (contains_filtered (λ x. not (number x == number item)) xs z h (other_passes (number z) (number item) (λ same. omega arith))))
        | inr (inl same) ↦ (put z).1 (inl (sym (rising_apart number xs r z item h item_in same)))
        | inr (inr more) ↦ (put z).1 (inr (contains_filtered (λ x. not (number x == number item)) xs z h (other_passes (number z) (number item) (λ same. omega arith))))
      ])

  -- the last one, above all others, taken out
  pub last_taken : (item : X) (xs : List X) → IsRising number xs → ((x : X) → Contains xs x → number x < number item) → without number (number item) (xs ++ item ∷ []) ≡ xs
  last_taken item xs r above =
      taken_back item xs (xs ++ item ∷ []) r (pairs_push ByNumber xs item r above)
      (λ z. (
        (λ h. elim (Contains-push_cases xs item z h) [ inl old ↦ inr old | inr is ↦ inl is ]),
        (λ h. elim h [
          | inl is ↦ subst (λ w. Contains (xs ++ item ∷ []) w) is (Contains-push xs item)
          | inr old ↦ Contains-append_left xs (item ∷ []) z old
        ]),
      ))
      (λ x x_in same. (let less = above x x_in in absurd (omega arith)))

pub map_alike : {X Y : Type 0} (f g : X → Y) (xs : List X) → ((x : X) → Contains xs x → f x ≡ g x) → map f xs ≡ map g xs
map_alike f g [] same = refl
map_alike f g (x ∷ xs) same = (let here = same x (contains_head x xs) in let rest = map_alike f g xs (λ y h. same y (contains_later x xs y h)) in cc)

pub map_undone : {X : Type 0} (f g : X → X) (xs : List X) → ((x : X) → Contains xs x → f (g x) ≡ x) → map f (map g xs) ≡ xs
map_undone f g [] same = refl
map_undone f g (x ∷ xs) same = (let here = same x (contains_head x xs) in let rest = map_undone f g xs (λ y h. same y (contains_later x xs y h)) in cc)
