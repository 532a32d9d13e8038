-- Tests of numbers, and items that a list has by their numbers.
use Rattle.std.proofs.Common.{◌≡◌, ◌≢◌, ◌∙◌, inl, inr, refl, ℕ, ◌==◌, List, [], ◌∷◌, ap, sym, subst, Bool, true, false, arith}
use Rattle.std.specs.Prelude.{Contains, not, ◌||◌}
use Rattle.std.specs.List.{list_any}
use Rattle.std.proofs.lemmas.Bool.Decides.{nat_tests}
use Rattle.sk_base.specs.declared.numbered.Elem.{Elem}
use Rattle.sk_base.specs.Numbering.{is_elem, elem_number, elem_exact}
use Rattle.sk_base.proofs.Members.{contains_none, contains_head, contains_later, contains_cases}

pub other_passes : (a b : ℕ) → a ≢ b → not (a == b) ≡ true
other_passes a b differ = told (a == b) refl
  where
    told : (t : Bool) → (a == b) ≡ t → not t ≡ true
    told true is = absurd (differ (grind (arith, nat_tests)))
    told false is = refl

pub same_fails : (a b : ℕ) → a ≡ b → not (a == b) ≡ false
same_fails a b same = (let is : (a == b) ≡ true = grind (arith, nat_tests) in ap not is)

pub passes_differ : (a b : ℕ) → not (a == b) ≡ true → a ≢ b
passes_differ a b passes same = (let fails = same_fails a b same in let never : true ≡ false = sym passes ∙ fails in absurd (cc))

module _ {X : Type 0} (number : X → ℕ) where
  -- a list has an item just where one of its numbers is the item's
  pub among_found : ((x y : X) → number x ≡ number y → x ≡ y) → (xs : List X) (x : X) → list_any (λ y. number y == number x) xs ≡ true → Contains xs x
  among_found exact [] x h = absurd (cc)
  among_found exact (y ∷ ys) x h = told (number y == number x) refl h (among_found exact ys x)
    where
      told : (b : Bool) → (number y == number x) ≡ b → (b || list_any (λ z. number z == number x) ys) ≡ true → (list_any (λ z. number z == number x) ys ≡ true → Contains ys x) → Contains (y ∷ ys) x
      told true is h rest = (let same : number y ≡ number x = grind (arith, nat_tests) in subst (λ z. Contains (y ∷ ys) z) (exact y x same) (contains_head y ys))
      told false is h rest = contains_later y ys x (rest h)

  pub found_among : (xs : List X) (x : X) → Contains xs x → list_any (λ y. number y == number x) xs ≡ true
  found_among [] x h = absurd (contains_none x h)
  found_among (y ∷ ys) x h =
      elim (contains_cases y ys x h) [
        | inl here ↦ (let itself : (number y == number x) ≡ true = (let same = ap number here in grind (arith, nat_tests)) in ap (λ b. b || list_any (λ z. number z == number x) ys) itself)
        | inr later ↦ told (number y == number x) (found_among ys x later)
      ]
    where
      told : (b : Bool) → list_any (λ z. number z == number x) ys ≡ true → (b || list_any (λ z. number z == number x) ys) ≡ true
      told true h = refl
      told false h = h

pub elem_found : (xs : List Elem) (x : Elem) → is_elem xs x ≡ true → Contains xs x
elem_found xs x h = among_found elem_number elem_exact xs x h

pub found_elem : (xs : List Elem) (x : Elem) → Contains xs x → is_elem xs x ≡ true
found_elem xs x h = found_among elem_number xs x h
