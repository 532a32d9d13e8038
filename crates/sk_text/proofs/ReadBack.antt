-- A number that is spelled is read back.
use Rattle.std.proofs.Common.{◌≡◌, ℕ, suc, ◌+◌, ◌*◌, ◌/◌, ◌%◌, ◌<◌, ◌≤◌, ◌^◌, inl, inr, Bool, true, false, nat_le, nat_lt, nat_eq, List, [], ◌∷◌, ◌++◌, length, drop, Option, Some, None, refl, ap, ◌∙◌, arith, pos, negsuc, ℤ, append-nil, zero-add}
use Rattle.std.specs.List.{list_all, position, position_or_len}
use Rattle.std.specs.Char.{is_ascii_digit, digit_value}
use Rattle.std.specs.Str.Parse.{AllDigits, IsNumeral}
use Rattle.std.specs.Fmt.{decimal}
use Rattle.std.proofs.Math.Seq.{take-append_seam}
use Rattle.std.proofs.lemmas.Bool.Decides.{nat_tests}
use Rattle.std.proofs.lemmas.Bool.{cases_eq}
use Rattle.std.proofs.lemmas.Fmt.{decimal_is_IsNumeral, length-decimal-le}
use Rattle.std.proofs.lemmas.List.{length-append}
use Rattle.sk_base.specs.Millimetres.{digits_of, at_most, has_sign, without_sign, is_point, whole_um, fraction_um, um_round, unsigned_um, mm_of}
use Rattle.sk_base.specs.Spelling.{magnitude, fraction_text, mm_text}

digit_again : (c : ℕ) → digit_value c < 10 → is_ascii_digit c ≡ true
digit_again c small = grind (arith, nat_tests)

all_again : (bytes : List ℕ) → AllDigits 10 bytes → list_all is_ascii_digit bytes ≡ true
all_again [] all = refl
all_again (b ∷ bytes) all = rw (digit_again b all.0) (all_again bytes all.1)

-- the digits of a number that has at most `most` of them
pub digits_of-decimal : (most n : ℕ) → 0 < most → n < 10 ^ most → n < 2 ^ 64 → digits_of most (decimal n) ≡ Some n
digits_of-decimal most n some small wide =
    let numeral = decimal_is_IsNumeral n wide in
    let short = length-decimal-le most n some small wide in
    let one : nat_le 1 (length (decimal n)) ≡ true = grind (arith, nat_tests) in
    let few : nat_le (length (decimal n)) most ≡ true = grind (arith, nat_tests) in
    let digits = all_again (decimal n) numeral.0.1 in
    rw (one, few, digits, numeral.1) refl

-- a number begins with a digit, which is no sign
pub unsigned : (digits rest : List ℕ) → IsNumeral 10 digits → (has_sign (digits ++ rest) ≡ false) × (without_sign (digits ++ rest) ≡ digits ++ rest)
unsigned [] rest numeral = absurd (omega (arith, numeral.0))
unsigned (c ∷ digits) rest numeral =
    let small = numeral.1.0 in
    let other : nat_eq c 45 ≡ false = grind (arith, nat_tests) in (other, rw other refl)

-- no digit is the separator
abbrev pub LacksDigits : (ℕ → Bool) → Type 0
LacksDigits p = (c : ℕ) → digit_value c < 10 → p c ≡ false

pub point_lacks_digits : LacksDigits is_point
point_lacks_digits c small = grind (arith, nat_tests)

behind_digits : (p : ℕ → Bool) → LacksDigits p → (digits : List ℕ) (y : ℕ) (rest : List ℕ) → AllDigits 10 digits → p y ≡ true → position_or_len p (digits ++ y ∷ rest) ≡ length digits
behind_digits p lacks [] y rest all is = rw is refl
behind_digits p lacks (c ∷ digits) y rest all is =
    let later = behind_digits p lacks digits y rest all.1 is in rw (lacks c all.0) (omega (arith, later))

after_digits : (p : ℕ → Bool) → LacksDigits p → (digits : List ℕ) → AllDigits 10 digits → position_or_len p digits ≡ length digits
after_digits p lacks [] all = refl
after_digits p lacks (c ∷ digits) all =
    let later = after_digits p lacks digits all.1 in rw (lacks c all.0) (omega (arith, later))

-- the separator is found behind the digits
pub found_behind : (p : ℕ → Bool) → LacksDigits p → (digits : List ℕ) (y : ℕ) (rest : List ℕ) → AllDigits 10 digits → p y ≡ true → position p (digits ++ y ∷ rest) ≡ Some (length digits)
found_behind p lacks digits y rest all is =
    let place = behind_digits p lacks digits y rest all is in
    let whole = length-append digits (y ∷ rest) in
    let within : nat_lt (length digits) (length (digits ++ y ∷ rest)) ≡ true = grind (arith, nat_tests) in rw (place, within) refl

pub none_in_digits : (p : ℕ → Bool) → LacksDigits p → (digits : List ℕ) → AllDigits 10 digits → position p digits ≡ None
none_in_digits p lacks digits all =
    let place = after_digits p lacks digits all in
    let past : nat_lt (length digits) (length digits) ≡ false = grind (arith, nat_tests) in rw (place, past) refl

pub drop_behind : (xs : List ℕ) (y : ℕ) (ys : List ℕ) → drop (length xs + 1) (xs ++ y ∷ ys) ≡ ys
drop_behind [] y ys = refl
drop_behind (x ∷ xs) y ys = let next : length (x ∷ xs) + 1 ≡ suc (length xs + 1) = omega arith in rw next (drop_behind xs y ys)

written_digit : (a : ℕ) → a < 10 → (is_ascii_digit (48 + a) ≡ true) × (digit_value (48 + a) ≡ a)
written_digit a small = (grind (arith, nat_tests), grind (arith, nat_tests))

one_digit : (a : ℕ) → a < 10 → fraction_um ((48 + a) ∷ []) ≡ Some (a * 100)
one_digit a less = let d = written_digit a less in rw (d.0, d.1) (ap (λ (n : ℕ). Some (n * 100)) (zero-add a))

two_digits : (a b : ℕ) → a < 10 → b < 10 → fraction_um ((48 + a) ∷ (48 + b) ∷ []) ≡ Some ((a * 10 + b) * 10)
two_digits a b la lb =
    let d = written_digit a la in
    let e = written_digit b lb in rw (d.0, d.1, e.0, e.1) (ap (λ (n : ℕ). Some ((n * 10 + b) * 10)) (zero-add a))

three_digits : (a b c : ℕ) → a < 10 → b < 10 → c < 10 → fraction_um ((48 + a) ∷ (48 + b) ∷ (48 + c) ∷ []) ≡ Some (((a * 10 + b) * 10 + c) * 1)
three_digits a b c la lb lc =
    let d = written_digit a la in
    let e = written_digit b lb in
    let f = written_digit c lc in rw (d.0, d.1, e.0, e.1, f.0, f.1) (ap (λ (n : ℕ). Some (((n * 10 + b) * 10 + c) * 1)) (zero-add a))

whole_back : (k : ℕ) → k < 10000000 → whole_um (decimal k) ≡ Some (1000 * k)
whole_back k small = rw (digits_of-decimal 7 k (omega arith) (omega arith) (omega arith)) refl

-- digits, a point and a fraction
with_fraction : (k : ℕ) (fraction : List ℕ) (f : ℕ) → k < 10000000 → fraction_um fraction ≡ Some f → unsigned_um (decimal k ++ 46 ∷ fraction) ≡ Some (1000 * k + f)
with_fraction k fraction f small is =
    let numeral = decimal_is_IsNumeral k (omega arith) in
    let place = found_behind is_point point_lacks_digits (decimal k) 46 fraction numeral.0.1 refl in
    ap (um_round (decimal k ++ 46 ∷ fraction)) place
    ∙ rw (take-append_seam, drop_behind, whole_back k small, is) refl

without_fraction : (k : ℕ) → k < 10000000 → unsigned_um (decimal k ++ []) ≡ Some (1000 * k)
without_fraction k small =
    let numeral = decimal_is_IsNumeral k (omega arith) in
    ap unsigned_um (append-nil (decimal k)) ∙ ap (um_round (decimal k)) (none_in_digits is_point point_lacks_digits (decimal k) numeral.0.1) ∙ whole_back k small

some_along : (a b : ℕ) → a ≡ b → (x : Option ℕ) → x ≡ Some a → x ≡ Some b
some_along a b e x is = is ∙ ap (λ n. Some n) e

-- the canonical millimetres of an amount
amount_back : (m : ℕ) → m ≤ 1000000000 → unsigned_um (decimal (m / 1000) ++ fraction_text m) ≡ Some m
amount_back m few =
    let k = m / 1000 in
    let small : k < 10000000 = omega arith in
    let a = m / 100 % 10 in
    let b = m / 10 % 10 in
    let c = m / 1 % 10 in
    elim (cases_eq (m % 1000) 0) [
      | inl none ↦
          let yes : nat_eq (m % 1000) 0 ≡ true = grind (arith, nat_tests) in
          rw yes (some_along (1000 * k) m (omega arith) _ (without_fraction k small))
      | inr some ↦
          let no : nat_eq (m % 1000) 0 ≡ false = grind (arith, nat_tests) in
          elim (cases_eq (m % 100) 0) [
            | inl one ↦
                let yes : nat_eq (m % 100) 0 ≡ true = grind (arith, nat_tests) in
                rw (no, yes) (some_along (1000 * k + a * 100) m (omega arith) _ (with_fraction k _ _ small (one_digit a (omega arith))))
            | inr more ↦
                let second : nat_eq (m % 100) 0 ≡ false = grind (arith, nat_tests) in
                elim (cases_eq (m % 10) 0) [
                  | inl two ↦
                      let yes : nat_eq (m % 10) 0 ≡ true = grind (arith, nat_tests) in
                      rw (no, second, yes) (some_along (1000 * k + (a * 10 + b) * 10) m (omega arith) _ (with_fraction k _ _ small (two_digits a b (omega arith) (omega arith))))
                  | inr three ↦
                      let third : nat_eq (m % 10) 0 ≡ false = grind (arith, nat_tests) in
                      rw (no, second, third) (some_along (1000 * k + ((a * 10 + b) * 10 + c) * 1) m (omega arith) _ (with_fraction k _ _ small (three_digits a b c (omega arith) (omega arith) (omega arith))))
                ]
          ]
    ]

within_limit : (m : ℕ) → m ≤ 1000000000 → (text : Option ℕ) → text ≡ Some m → at_most 1000000000 text ≡ Some m
within_limit m few text is = let test : nat_le m 1000000000 ≡ true = grind (arith, nat_tests) in rw is (rw test refl)

-- what is written of a coordinate reads as that coordinate
pub mm_of-mm_text : (um : ℤ) → magnitude um ≤ 1000000000 → mm_of (mm_text um) ≡ Some um
mm_of-mm_text (pos m) few =
    let numeral = decimal_is_IsNumeral (m / 1000) (omega arith) in
    let plain = unsigned (decimal (m / 1000)) (fraction_text m) numeral.0 in
    let amount = within_limit m few _ (amount_back m few) in rw (plain.0, plain.1, amount) refl
mm_of-mm_text (negsuc n) few = let amount = within_limit (suc n) few _ (amount_back (suc n) few) in rw amount refl
