-- What a test keeps of a list, and what tests tell.
use Rattle.std.proofs.Common.{◌≡◌, ◌∙◌, inl, inr, refl, List, [], ◌∷◌, ap, sym, subst, Bool, true, false, cond}
use Rattle.std.specs.Prelude.{Contains, filter, not, ◌&&◌, ◌||◌}
use Rattle.std.specs.List.{list_any}
use Rattle.std.proofs.lemmas.Bool.{or_parts}
use Rattle.sk_base.proofs.Members.{contains_none, contains_head, contains_later, contains_cases}

module _ {X : Type 0} where
  pub filter_keeps : (p : X → Bool) (xs : List X) → ((x : X) → Contains xs x → p x ≡ true) → filter p xs ≡ xs
  filter_keeps p [] all = refl
  filter_keeps p (x ∷ xs) all =
      ap (λ b. cond b (x ∷ filter p xs) (filter p xs)) (all x (contains_head x xs)) ∙ ap (λ l. x ∷ l) (filter_keeps p xs (λ y y_in. all y (contains_later x xs y y_in)))

  -- what passes both tests passes the one and then the other
  pub filter_both : (p q r : X → Bool) → ((x : X) → r x ≡ (p x && q x)) → (xs : List X) → filter r xs ≡ filter q (filter p xs)
  filter_both p q r both [] = refl
  filter_both p q r both (x ∷ xs) = told (filter_both p q r both xs) (p x) refl (q x) refl
    where
      both_at : (a b : Bool) → p x ≡ a → q x ≡ b → r x ≡ (a && b)
      both_at a b a_is b_is = both x ∙ ap (λ c. c && q x) a_is ∙ ap (λ c. a && c) b_is

      told : filter r xs ≡ filter q (filter p xs) → (a : Bool) → p x ≡ a → (b : Bool) → q x ≡ b → filter r (x ∷ xs) ≡ filter q (filter p (x ∷ xs))
      told rest false a_is b b_is =
          ap (λ c. cond c (x ∷ filter r xs) (filter r xs)) (both_at false b a_is b_is) ∙ rest ∙ sym (ap (λ l. filter q l) (ap (λ c. cond c (x ∷ filter p xs) (filter p xs)) a_is))
      told rest true a_is false b_is =
          ap (λ c. cond c (x ∷ filter r xs) (filter r xs)) (both_at true false a_is b_is) ∙ rest
          ∙ sym (ap (λ c. cond c (x ∷ filter q (filter p xs)) (filter q (filter p xs))) b_is)
          ∙ sym (ap (λ l. filter q l) (ap (λ c. cond c (x ∷ filter p xs) (filter p xs)) a_is))
      told rest true a_is true b_is =
          ap (λ c. cond c (x ∷ filter r xs) (filter r xs)) (both_at true true a_is b_is) ∙ ap (λ l. x ∷ l) rest
          ∙ sym (ap (λ c. cond c (x ∷ filter q (filter p xs)) (filter q (filter p xs))) b_is)
          ∙ sym (ap (λ l. filter q l) (ap (λ c. cond c (x ∷ filter p xs) (filter p xs)) a_is))

pub neither : (a b : Bool) → not (a || b) ≡ (not a && not b)
neither true b = refl
neither false b = refl

-- two tests that hold together are the same
pub same_tests : (a b : Bool) → (a ≡ true → b ≡ true) → (b ≡ true → a ≡ true) → a ≡ b
same_tests true b to from = sym (to refl)
same_tests false true to from = from refl
same_tests false false to from = refl

-- where no item passes a test, each fails it
pub none_passes : {X : Type 0} (p : X → Bool) (xs : List X) → list_any p xs ≡ false → (x : X) → Contains xs x → p x ≡ false
none_passes p [] none x x_in = absurd (contains_none x x_in)
none_passes p (y ∷ xs) none x x_in =
    let both = or_parts (p y) (list_any p xs) none in
    elim (contains_cases y xs x x_in) [
      | inl here ↦ subst (λ z. p z ≡ false) here both.0
      | inr later ↦ none_passes p xs both.1 x later
    ]
