-- The first item with a property, where items rise by number.
use Rattle.std.proofs.Common.{◌≡◌, inl, inr, ℕ, ◌<◌, List, [], ◌∷◌, ◌++◌, subst, ap, arith}
use Rattle.std.specs.Prelude.{Contains}
use Rattle.sk_base.specs.Rising.{IsRising}
use Rattle.sk_base.proofs.Members.{contains_none, contains_head, contains_later, contains_cases}
use Rattle.sk_base.proofs.Unions.{rising_tail, rising_below}
use Rattle.sk_tolerance.specs.First.{IsFirst}

module _ {X : Type 0} (number : X → ℕ) where
  module _ (P : X → Type 0) where
    -- the first is one before which by number none has the property
    pub first_rising : (xs : List X) → IsRising number xs → (x : X) → Contains xs x → P x → ((y : X) → Contains xs y → number y < number x → ¬ P y) → IsFirst P xs x
    first_rising [] rise x h has before = absurd (contains_none x h)
    first_rising (y ∷ xs) rise x h has before =
        elim (contains_cases y xs x h) [
          | inl here ↦ record { before = []; after = xs; parts = ap (λ z. z ∷ xs) here; has = has; none_before = λ z z_in. absurd (contains_none z z_in) }
          | inr later ↦ (
              let first = first_rising xs (rising_tail number y xs rise) x later has (λ z z_in. before z (contains_later y xs z z_in)) in
              record {
                before = y ∷ first.before;
                after = first.after;
                parts = ap (λ zs. y ∷ zs) first.parts;
                has = has;
                none_before = λ z z_in. elim (contains_cases y first.before z z_in) [
                  | inl is ↦ subst (λ w. ¬ P w) is (before y (contains_head y xs) (rising_below number y xs rise x later))
                  | inr rest ↦ first.none_before z rest
                ];
              })
        ]

    below_parts : (before after : List X) (x : X) → IsRising number (before ++ x ∷ after) → ((z : X) → Contains before z → ¬ P z) → (y : X) → Contains (before ++ x ∷ after) y → number y < number x → ¬ P y
    below_parts [] after x rise none y y_in lt =
        elim (contains_cases x after y y_in) [
          | inl is ↦ (let same : number x ≡ number y = ap number is in absurd (omega arith))
          | inr rest ↦ (let above : number x < number y = rising_below number x after rise y rest in absurd (omega arith))
        ]
    below_parts (b ∷ before) after x rise none y y_in lt =
        elim (contains_cases b (before ++ x ∷ after) y y_in) [
          | inl is ↦ subst (λ w. ¬ P w) is (none b (contains_head b before))
          | inr rest ↦ below_parts before after x (rising_tail number b (before ++ x ∷ after) rise) (λ z z_in. none z (contains_later b before z z_in)) y rest lt
        ]

    pub none_below : (xs : List X) → IsRising number xs → (x : X) → IsFirst P xs x → (y : X) → Contains xs y → number y < number x → ¬ P y
    none_below xs rise x first y y_in lt =
        below_parts first.before first.after x (subst (λ zs. IsRising number zs) first.parts rise) first.none_before y (subst (λ zs. Contains zs y) first.parts y_in) lt
