-- How long lists are in which no item stands twice.
use Rattle.std.proofs.Common.{◌≡◌, ◌≢◌, inl, inr, ◌≤◌, List, [], ◌∷◌, ◌++◌, length, ap, subst, arith, length-append}
use Rattle.std.specs.Prelude.{Contains, AllPairs, ◌↔◌}
use Rattle.std.proofs.lemmas.List.Elements.{Contains-append_cases, Contains-append_left, Contains-append_right}
use Rattle.sk_base.proofs.Members.{contains_none, contains_head, contains_later, contains_cases}
use Rattle.sk_base.proofs.Pairs.{pairs_tail, pairs_head}

-- where no item stands twice, a list is no longer than one that has all its items
module _ {X : Type 0} where
  split_at : (ys : List X) (x : X) → Contains ys x → (p : List X) × (q : List X) × (ys ≡ p ++ x ∷ q)
  split_at [] x h = absurd (contains_none x h)
  split_at (y ∷ ys) x h =
      elim (contains_cases y ys x h) [
        | inl here ↦ ([], ys, ap (λ z. z ∷ ys) here)
        | inr later ↦ (let rest = split_at ys x later in (y ∷ rest.0, rest.1, ap (λ zs. y ∷ zs) rest.2))
      ]

  other_side : (p q : List X) (x y : X) → x ≢ y → Contains (p ++ x ∷ q) y → Contains (p ++ q) y
  other_side p q x y differ h =
      elim (Contains-append_cases p (x ∷ q) y h) [
        | inl left ↦ Contains-append_left p q y left
        | inr right ↦ elim (contains_cases x q y right) [
          | inl here ↦ absurd (differ here)
          | inr later ↦ Contains-append_right p q y later
        ]
      ]

  pub no_longer : (xs ys : List X) → AllPairs (λ x y. x ≢ y) xs → ((x : X) → Contains xs x → Contains ys x) → length xs ≤ length ys
  no_longer [] ys distinct within = omega arith
  no_longer (x ∷ xs) ys distinct within =
      let split = split_at ys x (within x (contains_head x xs)) in
      let rest = no_longer xs (split.0 ++ split.1) (pairs_tail (λ v w. v ≢ w) x xs distinct)
      (λ y y_in. other_side split.0 split.1 x y (pairs_head (λ v w. v ≢ w) x xs distinct y y_in)
      (subst (λ zs. Contains zs y) split.2 (within y (contains_later x xs y y_in)))) in
      let whole = ap (λ zs. length zs) split.2 in
      omega (arith, length-append split.0 (x ∷ split.1), length-append split.0 split.1)

  pub same_length : (xs ys : List X) → AllPairs (λ x y. x ≢ y) xs → AllPairs (λ x y. x ≢ y) ys → ((x : X) → Contains xs x ↔ Contains ys x) → length xs ≡ length ys
  same_length xs ys d e same =
      let to = no_longer xs ys d (λ x. (same x).0) in let from = no_longer ys xs e (λ x. (same x).1) in omega arith
