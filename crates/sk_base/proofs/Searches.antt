-- What a search along a list knows: none so far has a property.
use Rattle.std.proofs.Common.{◌≡◌, inl, inr, ℕ, ◌+◌, ◌<◌, ◌≤◌, List, length, get_or, sym, subst, ap, ◌∙◌, arith}
use Rattle.std.specs.Prelude.{Contains, Option, None, Some, IfNone, OnOk, Result, Ok, Err, IsTrue, false, true}
use Rattle.std.proofs.lemmas.List.{get_or_default}
use Rattle.sk_base.specs.Rising.{IsRising}
use Rattle.sk_base.proofs.Unions.{which}

module _ {X : Type 0} (P : X → Type 0) (xs : List X) (i : ℕ) where
  -- none of the first i has it
  abbrev pub NoneBefore : Type 0
  NoneBefore = (k : ℕ) (d : X) → k < i → ¬ P (get_or xs k d)

module _ {X : Type 0} (P : X → Type 0) (xs : List X) (i : ℕ) (none : NoneBefore P xs i) where
  pub none_more : (z : X) → i < length xs → ¬ P (get_or xs i z) → NoneBefore P xs (i + 1)
  none_more z i_in not_here k d k_less =
      elim (which k i) [
        | inl before ↦ none k d before
        | inr (inl level) ↦ (λ h. not_here (subst (λ w. P w) (get_or_default xs i d z i_in) (subst (λ j. P (get_or xs j d)) level h)))
        | inr (inr after) ↦ absurd (omega arith)
      ]

  pub none_at_all : length xs ≤ i → (e : X) → Contains xs e → ¬ P e
  none_at_all over e (k, k_in, is) h = none k e (omega arith) (subst (λ w. P w) (sym is) h)

  -- in a rising list the first that has it is the least
  pub first_is_least : (number : X → ℕ) → IsRising number xs → (z : X) → i < length xs → (e : X) → Contains xs e → P e → number (get_or xs i z) ≤ number e
  first_is_least number rises z i_in e (k, k_in, is) h =
      elim (which k i) [
        | inl before ↦ absurd (none k e before (subst (λ w. P w) (sym is) h))
        | inr (inl level) ↦ (
            let same : get_or xs i z ≡ e = get_or_default xs i z e i_in ∙ ap (λ j. get_or xs j e) (sym level) ∙ is in
            let numbers : number (get_or xs i z) ≡ number e = ap number same in omega arith)
        | inr (inr after) ↦ (
            let below : number (get_or xs i e) < number (get_or xs k e) = rises i k e after k_in in
            let here : number (get_or xs i z) ≡ number (get_or xs i e) = ap number (get_or_default xs i z e i_in) in
            let there : number (get_or xs k e) ≡ number e = ap number is in omega arith)
      ]

-- what a test refuses does not hold
pub refused : {P : Type 0} → (P → IsTrue false) → ¬ P
refused to p = (let never : false ≡ true = to p in absurd (cc))

pub if_none : {T P : Type 0} (o : Option T) → P → IfNone o P
if_none None h = h
if_none (Some x) h = tt

pub on_ok : {T E P Q : Type 0} (r : Result T E) → OnOk r P → (P → Q) → OnOk r Q
on_ok (Ok x) h to = to h
on_ok (Err e) h to = tt
