-- What digits stand for.
use Rattle.std.proofs.Common.{◌≡◌, ℕ, zero, suc, ◌-◌, ◌<◌, ◌≤◌, ◌^◌, true, List, [], ◌∷◌, length, take, get_or, arith, nat_le}
use Rattle.std.specs.List.{list_all}
use Rattle.std.specs.Char.{is_ascii_digit, digit_value}
use Rattle.std.specs.Str.Parse.{digits_value, AllDigits}
use Rattle.std.proofs.lemmas.List.{length-take-le}
use Rattle.std.proofs.lemmas.Int.Digits.{digits_value-lt}
use Rattle.std.proofs.lemmas.Bool.{and_parts}
use Rattle.std.proofs.lemmas.Bool.Decides.{nat_tests}
use Rattle.std.proofs.Math.Nat.{pow-le-pow_right}
use Rattle.sk_base.specs.Millimetres.{is_digits}

digit : (c : ℕ) → is_ascii_digit c ≡ true → digit_value c < 10
digit c is = grind (arith, nat_tests)

digit_is : (c : ℕ) → digit_value c < 10 → (48 ≤ c) × (c < 58) × (digit_value c ≡ c - 48)
digit_is c small = (grind (arith, nat_tests), grind (arith, nat_tests), grind (arith, nat_tests))

pub all_digits : (bytes : List ℕ) → list_all is_ascii_digit bytes ≡ true → AllDigits 10 bytes
all_digits [] is = tt
all_digits (b ∷ bytes) is =
    let parts = and_parts (is_ascii_digit b) (list_all is_ascii_digit bytes) is in (digit b parts.0, all_digits bytes parts.1)

pub is_digits_all : (most : ℕ) (bytes : List ℕ) → is_digits most bytes ≡ true → AllDigits 10 bytes × (length bytes ≤ most)
is_digits_all most bytes is =
    let outer = and_parts _ (list_all is_ascii_digit bytes) is in
    let inner = and_parts (nat_le 1 (length bytes)) (nat_le (length bytes) most) outer.0 in
    let short = inner.1 in
    (all_digits bytes outer.1, grind (arith, nat_tests))

pub is_digits_some : (most : ℕ) (bytes : List ℕ) → is_digits most bytes ≡ true → 0 < length bytes
is_digits_some most bytes is =
    let outer = and_parts _ (list_all is_ascii_digit bytes) is in
    let inner = and_parts (nat_le 1 (length bytes)) (nat_le (length bytes) most) outer.0 in
    let long = inner.0 in grind (arith, nat_tests)

-- the digit at a place
pub digit_at : (bytes : List ℕ) (i : ℕ) → AllDigits 10 bytes → i < length bytes → (48 ≤ get_or bytes i 0) × (get_or bytes i 0 < 58) × (digit_value (get_or bytes i 0) ≡ get_or bytes i 0 - 48)
digit_at [] i all below = absurd (omega arith)
digit_at (b ∷ bytes) zero all below = digit_is b all.0
digit_at (b ∷ bytes) (suc i) all below = digit_at bytes i all.1 (omega arith)

all_digits-take : (n : ℕ) (bytes : List ℕ) → AllDigits 10 bytes → AllDigits 10 (take n bytes)
all_digits-take zero bytes all = tt
all_digits-take (suc n) [] all = tt
all_digits-take (suc n) (b ∷ bytes) all = (all.0, all_digits-take n bytes all.1)

pub below_power : (most : ℕ) (bytes : List ℕ) → AllDigits 10 bytes → length bytes ≤ most → digits_value 10 bytes < 10 ^ most
below_power most bytes all short =
    let below = digits_value-lt 10 bytes all in
    let wider = pow-le-pow_right {n = 10} (omega arith) short in omega (arith, below, wider)

-- the digits before one of at most 19
pub front_below : (bytes : List ℕ) (i : ℕ) → AllDigits 10 bytes → length bytes ≤ 19 → i < length bytes → digits_value 10 (take i bytes) < 1000000000000000000
front_below bytes i all short below =
    below_power 18 (take i bytes) (all_digits-take i bytes all) (rw (length-take-le i bytes (omega arith)) (omega arith))
