-- What a function gives for the items of a list, without those for which it gives nothing.
use Rattle.std.proofs.Common.{◌≡◌, inl, inr, List, [], ◌∷◌, refl, sym, subst}
use Rattle.std.specs.Prelude.{Contains, AllPairs, Option, Some, None}
use Rattle.std.specs.List.{filter_map, cons_option}
use Rattle.sk_base.proofs.Members.{contains_none, contains_head, contains_later, contains_cases}
use Rattle.sk_base.proofs.Pairs.{pairs_none, pairs_cons, pairs_head, pairs_tail}

module _ {X Y : Type 0} (f : X → Option Y) where
  -- what is given comes from some item
  pub given_from : (xs : List X) (y : Y) → Contains (filter_map f xs) y → (x : X) × Contains xs x × (f x ≡ Some y)
  given_from [] y h = absurd (contains_none y h)
  given_from (x ∷ xs) y h = told (f x) refl h (given_from xs y)
    where
      later : (x' : X) × Contains xs x' × (f x' ≡ Some y) → (x' : X) × Contains (x ∷ xs) x' × (f x' ≡ Some y)
      later (x', among, is) = (x', contains_later x xs x' among, is)

      told : (o : Option Y) → f x ≡ o → Contains (cons_option o (filter_map f xs)) y → (Contains (filter_map f xs) y → (x' : X) × Contains xs x' × (f x' ≡ Some y)) → (x' : X) × Contains (x ∷ xs) x' × (f x' ≡ Some y)
      told None is h rest = later (rest h)
      told (Some z) is h rest =
          elim (contains_cases z (filter_map f xs) y h) [
            | inl here ↦ (x, contains_head x xs, subst (λ w. f x ≡ Some w) here is)
            | inr among ↦ later (rest among)
          ]

  -- what an item gives is given
  pub contains_given : (xs : List X) (x : X) (y : Y) → Contains xs x → f x ≡ Some y → Contains (filter_map f xs) y
  contains_given [] x y h is = absurd (contains_none x h)
  contains_given (z ∷ xs) x y h is =
      elim (contains_cases z xs x h) [
        | inl here ↦ (let gives : f z ≡ Some y = subst (λ w. f w ≡ Some y) (sym here) is in rw gives (contains_head y (filter_map f xs)))
        | inr later ↦ kept (f z) (contains_given xs x y later is)
      ]
    where
      kept : (o : Option Y) → Contains (filter_map f xs) y → Contains (cons_option o (filter_map f xs)) y
      kept None rest = rest
      kept (Some w) rest = contains_later w (filter_map f xs) y rest

  -- what relates two items relates what they give
  pub pairs_given : (P : X → X → Type 0) (R : Y → Y → Type 0) → ((x x' : X) (y y' : Y) → f x ≡ Some y → f x' ≡ Some y' → P x x' → R y y') → (xs : List X) → AllPairs P xs → AllPairs R (filter_map f xs)
  pairs_given P R carries [] pairs = pairs_none R
  pairs_given P R carries (x ∷ xs) pairs = told (f x) refl (pairs_given P R carries xs (pairs_tail P x xs pairs))
    where
      told : (o : Option Y) → f x ≡ o → AllPairs R (filter_map f xs) → AllPairs R (cons_option o (filter_map f xs))
      told None is rest = rest
      told (Some y) is rest =
          pairs_cons R y (filter_map f xs) rest (λ y' h. (let from = given_from xs y' h in carries x from.0 y y' is from.2 (pairs_head P x xs pairs from.0 from.1)))
