-- Decimal digits, from the last to the first.
use Rattle.std.proofs.Common.{◌≡◌, ℕ, ◌+◌, ◌/◌, ◌%◌, ◌<◌, ◌≤◌, ◌^◌, inl, inr, List, [], ◌∷◌, ◌++◌, length, sym, ap, ◌∙◌, arith, append_assoc, length-append}
use Rattle.std.specs.Fmt.{decimal}
use Rattle.std.proofs.lemmas.Bool.{cases_lt}
use Rattle.std.proofs.lemmas.Fmt.{decimal_step_wide, decimal_digit, length-decimal-le_wide}

-- the last digit goes in front of what stands behind the number
pub last_digit : (n : ℕ) (tail whole : List ℕ) → 10 ≤ n → n < 10 ^ 64 → decimal n ++ tail ≡ whole → decimal (n / 10) ++ (48 + n % 10) ∷ tail ≡ whole
last_digit n tail whole more small e =
    sym (append_assoc (decimal (n / 10)) ((48 + n % 10) ∷ []) tail) ∙ ap (λ text. text ++ tail) (sym (decimal_step_wide n more small)) ∙ e

pub one_digit : (n : ℕ) (tail whole : List ℕ) → n < 10 → decimal n ++ tail ≡ whole → (48 + n) ∷ tail ≡ whole
one_digit n tail whole less e = ap (λ text. text ++ tail) (sym (decimal_digit n less)) ∙ e

some_digit : (n : ℕ) → n < 10 ^ 64 → 0 < length (decimal n)
some_digit n small = elim (cases_lt n 10) [
  | inl less ↦ let one = ap length (decimal_digit n less) in omega (arith, one)
  | inr more ↦
      let step = ap length (decimal_step_wide n more small) in
      let parts = length-append (decimal (n / 10)) ((48 + n % 10) ∷ []) in omega (arith, step, parts)
]

pub has_room : (n most : ℕ) (tail whole : List ℕ) → n < 10 ^ 64 → decimal n ++ tail ≡ whole → length whole ≤ most → length tail < most
has_room n most tail whole small e short =
    let some = some_digit n small in
    let lengths = sym (length-append (decimal n) tail) ∙ ap length e in omega (arith, some, lengths)

-- a number of 128 bits has at most 39 digits
pub at_most_39 : (n : ℕ) → n < 2 ^ 128 → length (decimal n) ≤ 39
at_most_39 n small = length-decimal-le_wide 39 n (omega arith) (omega arith) (omega arith)

pub below_wide : (n : ℕ) → n < 2 ^ 128 → n < 10 ^ 64
below_wide n small = omega arith

pub whole_short : (n : ℕ) (tail : List ℕ) → n < 2 ^ 128 → length tail ≤ 8 → length (decimal n ++ tail) ≤ 48
whole_short n tail small short =
    let digits = at_most_39 n small in
    let parts = length-append (decimal n) tail in omega (arith, digits, parts)
