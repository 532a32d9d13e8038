-- Lists in front of a place, from it on, and one behind the other.
use Rattle.std.proofs.Common.{◌≡◌, ◌⊎◌, ◌∙◌, inl, inr, ap, refl, ℕ, zero, suc, ◌+◌, ◌-◌, ◌<◌, ◌≤◌, List, [], ◌∷◌, ◌++◌, length, length-append, get_or, subst, sym, take, drop, arith}
use Rattle.std.specs.Prelude.{Contains, AllPairs, Some, insert, slice_get, ◌↔◌}
use Rattle.std.proofs.lemmas.List.{take-append-drop, length-take, length-drop, get_or-take, get_or-drop}
use Rattle.std.proofs.lemmas.Option.{slice_get-get_or}
use Rattle.std.proofs.Math.Seq.{get_or-append_seam}
use Rattle.std.proofs.lemmas.List.Elements.{Contains-append_cases, Contains-append_left, Contains-append_right}
use Rattle.sk_base.proofs.Members.{contains_none, contains_head, contains_later, contains_cases}
use Rattle.sk_base.proofs.Pairs.{pairs_none, pairs_tail, pairs_head, pairs_cons}

module _ {X : Type 0} where
  pub in_take : (i : ℕ) (xs : List X) (x : X) → Contains (take i xs) x → Contains xs x
  in_take i xs x h = subst (λ ys. Contains ys x) (take-append-drop i xs) (Contains-append_left (take i xs) (drop i xs) x h)

  pub in_drop : (i : ℕ) (xs : List X) (x : X) → Contains (drop i xs) x → Contains xs x
  in_drop i xs x h = subst (λ ys. Contains ys x) (take-append-drop i xs) (Contains-append_right (take i xs) (drop i xs) x h)

  -- where an item in front of a place stands
  pub taken_from : (xs : List X) (i : ℕ) (x : X) → i ≤ length xs → Contains (take i xs) x → (k : ℕ) × (k < i) × (get_or xs k x ≡ x)
  taken_from xs i x i_in (k, below, is) = (let size = length-take i xs in let less : k < i = omega arith in (k, less, sym (get_or-take i xs k x less) ∙ is))

  -- where an item from a place on stands
  pub dropped_from : (xs : List X) (i : ℕ) (x : X) → Contains (drop i xs) x → (k : ℕ) × (i ≤ k) × (k < length xs) × (get_or xs k x ≡ x)
  dropped_from xs i x (k, below, is) = (i + k, omega arith, let size = length-drop i xs in omega arith, sym (get_or-drop i xs k x) ∙ is)

  -- what is in a list is in front of a place, or not
  pub in_either : (i : ℕ) (xs : List X) (x : X) → Contains xs x → Contains (take i xs) x ⊎ Contains (drop i xs) x
  in_either i xs x h = Contains-append_cases (take i xs) (drop i xs) x (subst (λ ys. Contains ys x) (sym (take-append-drop i xs)) h)

  -- an item that is put in between
  pub in_inserted : (xs : List X) (i : ℕ) (y x : X) → Contains (insert xs i y) x ↔ ((y ≡ x) ⊎ Contains xs x)
  in_inserted xs i y x = (
    (λ h. elim (Contains-append_cases (take i xs) (y ∷ drop i xs) x h) [
      | inl front ↦ inr (in_take i xs x front)
      | inr rest ↦ elim (contains_cases y (drop i xs) x rest) [ inl here ↦ inl here | inr later ↦ inr (in_drop i xs x later) ]
    ]),
    (λ h. elim h [
      | inl here ↦ Contains-append_right (take i xs) (y ∷ drop i xs) x (subst (λ z. Contains (y ∷ drop i xs) z) here (contains_head y (drop i xs)))
      | inr was ↦ elim (in_either i xs x was) [
        | inl front ↦ Contains-append_left (take i xs) (y ∷ drop i xs) x front
        | inr rest ↦ Contains-append_right (take i xs) (y ∷ drop i xs) x (contains_later y (drop i xs) x rest)
      ]
    ]),
  )

module _ {X : Type 0} (R : X → X → Type 0) where
  pub pairs_append : (xs ys : List X) → AllPairs R xs → AllPairs R ys → ((x y : X) → Contains xs x → Contains ys y → R x y) → AllPairs R (xs ++ ys)
  pairs_append [] ys r s across = s
  pairs_append (x ∷ xs) ys r s across =
      pairs_cons R x (xs ++ ys) (pairs_append xs ys (pairs_tail R x xs r) s (λ a b a_in b_in. across a b (contains_later x xs a a_in) b_in))
      (λ z h. elim (Contains-append_cases xs ys z h) [ inl left ↦ pairs_head R x xs r z left | inr right ↦ across x z (contains_head x xs) right ])

  pub pairs_take : (i : ℕ) (xs : List X) → AllPairs R xs → AllPairs R (take i xs)
  pairs_take zero xs r = pairs_none R
  pairs_take (suc i) [] r = pairs_none R
  pairs_take (suc i) (y ∷ xs) r = pairs_cons R y (take i xs) (pairs_take i xs (pairs_tail R y xs r)) (λ x h. pairs_head R y xs r x (in_take i xs x h))

  pub pairs_drop : (i : ℕ) (xs : List X) → AllPairs R xs → AllPairs R (drop i xs)
  pairs_drop zero xs r = r
  pairs_drop (suc i) [] r = pairs_none R
  pairs_drop (suc i) (y ∷ xs) r = pairs_drop i xs (pairs_tail R y xs r)

  -- each in front of a place comes before each from there on
  pub pairs_across : (i : ℕ) (xs : List X) → AllPairs R xs → (x y : X) → Contains (take i xs) x → Contains (drop i xs) y → R x y
  pairs_across zero xs r x y x_in y_in = absurd (contains_none x x_in)
  pairs_across (suc i) [] r x y x_in y_in = absurd (contains_none x x_in)
  pairs_across (suc i) (z ∷ xs) r x y x_in y_in =
      elim (contains_cases z (take i xs) x x_in) [
        | inl here ↦ subst (λ w. R w y) here (pairs_head R z xs r y (in_drop i xs y y_in))
        | inr later ↦ pairs_across i xs (pairs_tail R z xs r) x y later y_in
      ]

  -- an item at its place keeps the order
  pub pairs_inserted : (xs : List X) (i : ℕ) (y : X) → AllPairs R xs → ((x : X) → Contains (take i xs) x → R x y) → ((x : X) → Contains (drop i xs) x → R y x) → AllPairs R (insert xs i y)
  pairs_inserted xs i y r before after =
      pairs_append (take i xs) (y ∷ drop i xs) (pairs_take i xs r) (pairs_cons R y (drop i xs) (pairs_drop i xs r) after)
      (λ x z x_in z_in. elim (contains_cases y (drop i xs) z z_in) [
        | inl here ↦ subst (λ w. R x w) here (before x x_in)
        | inr later ↦ pairs_across i xs r x z x_in later
      ])

-- a list has a last item, or none
pub last_or_none : {X : Type 0} (xs : List X) → (xs ≡ []) ⊎ ((before : List X) × (last : X) × (xs ≡ before ++ last ∷ []))
last_or_none [] = inl refl
last_or_none {X} (x ∷ xs) =
    elim (last_or_none xs) [
      | inl none ↦ inr ([], x, ap (λ (ys : List X). x ∷ ys) none)
      | inr (before, last, is) ↦ inr (x ∷ before, last, ap (λ (ys : List X). x ∷ ys) is)
    ]

-- what was pushed stands at the last place
pub last_pushed : {X : Type 0} (xs : List X) (x : X) → slice_get (xs ++ x ∷ []) (length (xs ++ x ∷ []) - 1) ≡ Some x
last_pushed xs x =
    let long : length (xs ++ x ∷ []) ≡ length xs + 1 = length-append xs (x ∷ []) in
    let at : length (xs ++ x ∷ []) - 1 ≡ length xs = omega (arith, long) in
    ap (λ n. slice_get (xs ++ x ∷ []) n) at ∙ slice_get-get_or (xs ++ x ∷ []) (length xs) x (omega (arith, long)) ∙ ap Some (get_or-append_seam xs x [] x)
