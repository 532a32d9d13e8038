-- What the first item with a property is, and finding an item of a rising list by its number.
use Rattle.std.proofs.Common.{◌≡◌, inl, inr, ℕ, ◌<◌, ◌==◌, Bool, true, false, List, [], ◌∷◌, refl, subst, arith, cond}
use Rattle.std.specs.Prelude.{Contains, None, Some, find}
use Rattle.std.proofs.lemmas.Bool.Decides.{nat_tests}
use Rattle.sk_base.specs.Rising.{IsRising}
use Rattle.sk_base.proofs.Members.{contains_none, contains_head, contains_later, contains_cases}
use Rattle.sk_base.proofs.Pairs.{pairs_head, pairs_tail}

module _ {X : Type 0} (p : X → Bool) where
  -- what is found is in the list and has the property
  pub found_in : (xs : List X) (x : X) → find p xs ≡ Some x → Contains xs x × (p x ≡ true)
  found_in [] x is = cc
  found_in (y ∷ xs) x is = at_head (p y) refl is (λ later. found_in xs x later)
    where
      at_head : (b : Bool) → p y ≡ b → cond b (Some y) (find p xs) ≡ Some x → (find p xs ≡ Some x → Contains xs x × (p x ≡ true)) → Contains (y ∷ xs) x × (p x ≡ true)
      at_head true passes here below = let same : y ≡ x = cc in (subst (λ z. Contains (y ∷ xs) z) same (contains_head y xs), subst (λ z. p z ≡ true) same passes)
      at_head false fails later below = let rest = below later in (contains_later y xs x rest.0, rest.1)

  -- where nothing is found, nothing in the list has the property
  pub none_found : (xs : List X) → find p xs ≡ None → (x : X) → Contains xs x → p x ≡ false
  none_found [] is x h = absurd (contains_none x h)
  none_found (y ∷ xs) is x h = at_head (p y) refl is (λ later rest. none_found xs later x rest)
    where
      at_head : (b : Bool) → p y ≡ b → cond b (Some y) (find p xs) ≡ None → (find p xs ≡ None → Contains xs x → p x ≡ false) → p x ≡ false
      at_head true passes here below = cc
      at_head false fails later below =
          elim (contains_cases y xs x h) [
            | inl same ↦ subst (λ z. p z ≡ false) same fails
            | inr rest ↦ below later rest
          ]

  -- where nothing in the list has the property, nothing is found
  pub nothing_found : (xs : List X) → ((x : X) → Contains xs x → p x ≡ false) → find p xs ≡ None
  nothing_found [] fails = refl
  nothing_found (y ∷ xs) fails = rw (fails y (contains_head y xs)) (nothing_found xs (λ x x_in. fails x (contains_later y xs x x_in)))

module _ {X : Type 0} (number : X → ℕ) where
  -- an item of a rising list is the one that is found by its number
  pub found_rising : (xs : List X) → IsRising number xs → (x : X) → Contains xs x → find (λ y. number y == number x) xs ≡ Some x
  found_rising [] rises x h = absurd (contains_none x h)
  found_rising (y ∷ xs) rises x h =
      elim (contains_cases y xs x h) [
        | inl same ↦ subst (λ z. find (λ w. number w == number z) (y ∷ xs) ≡ Some z) same (here y xs)
        | inr later ↦
            let below : number y < number x = pairs_head (λ a b. number a < number b) y xs rises x later in
            let other : (number y == number x) ≡ false = grind (arith, nat_tests) in
            rw other (found_rising xs (pairs_tail (λ a b. number a < number b) y xs rises) x later)
      ]
    where
      here : (y : X) (xs : List X) → find (λ w. number w == number y) (y ∷ xs) ≡ Some y
      here y xs = let same : (number y == number y) ≡ true = grind (arith, nat_tests) in rw same refl
