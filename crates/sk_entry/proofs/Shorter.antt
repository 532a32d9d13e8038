-- A number that is read and written again is no longer than it was.
use Rattle.std.proofs.Common.{◌≡◌, ℕ, zero, suc, ◌+◌, ◌-◌, ◌*◌, ◌/◌, ◌%◌, ◌<◌, ◌≤◌, ◌^◌, Bool, true, false, cond, nat_le, nat_eq, List, [], ◌∷◌, ◌++◌, length, length-append, length-drop, take, drop, Option, Some, None, refl, sym, subst, arith, ℤ}
use Rattle.std.specs.Prelude.{position}
use Rattle.std.specs.Fmt.{decimal}
use Rattle.std.specs.Option.{option_map}
use Rattle.std.specs.Str.Parse.{digits_value}
use Rattle.std.proofs.lemmas.Fmt.{length-decimal-le}
use Rattle.std.proofs.lemmas.List.{length-take-le}
use Rattle.std.proofs.lemmas.List.Quantifiers.{position-Some}
use Rattle.sk_base.specs.Millimetres.{is_digits, has_sign, without_sign, with_sign, is_point, at_most, whole_um, fraction_um, sum_of, um_round, unsigned_um, mm_of}
use Rattle.sk_base.specs.Spelling.{fraction_text, mm_text}
use Rattle.sk_base.proofs.Decimals.{is_digits_some, is_digits_all, below_power}

record IsWhole (bytes : List ℕ) (n : ℕ) : Type 0 where
  k : ℕ
  is : n ≡ 1000 * k
  few : length (decimal k) ≤ length bytes

whole_shorter : (bytes : List ℕ) (n : ℕ) → whole_um bytes ≡ Some n → IsWhole bytes n
whole_shorter bytes n is = by (is_digits 7 bytes) refl is
  where
    by : (t : Bool) → is_digits 7 bytes ≡ t → option_map (λ (m : ℕ). 1000 * m) (cond t (Some (digits_value 10 bytes)) None) ≡ Some n → IsWhole bytes n
    by false digits is = cc
    by true digits is =
        let all = is_digits_all 7 bytes digits in
        let below = below_power (length bytes) bytes all.0 (omega arith) in
        let small = below_power 7 bytes all.0 all.1 in
        let same : 1000 * digits_value 10 bytes ≡ n = cc in
        record { k = digits_value 10 bytes; is = sym same; few = length-decimal-le (length bytes) (digits_value 10 bytes) (is_digits_some 7 bytes digits) below (omega (arith, small)) }

record IsFraction (bytes : List ℕ) (m : ℕ) : Type 0 where
  f : ℕ
  is : m ≡ f * 10 ^ (3 - length bytes)
  some : 0 < length bytes
  few : length bytes ≤ 3
  small : f < 10 ^ length bytes

fraction_value : (bytes : List ℕ) (m : ℕ) → fraction_um bytes ≡ Some m → IsFraction bytes m
fraction_value bytes m is = by (is_digits 3 bytes) refl is
  where
    by : (t : Bool) → is_digits 3 bytes ≡ t → option_map (λ (n : ℕ). n * 10 ^ (3 - length bytes)) (cond t (Some (digits_value 10 bytes)) None) ≡ Some m → IsFraction bytes m
    by false digits is = cc
    by true digits is =
        let all = is_digits_all 3 bytes digits in
        let same : digits_value 10 bytes * 10 ^ (3 - length bytes) ≡ m = cc in
        record { f = digits_value 10 bytes; is = sym same; some = is_digits_some 3 bytes digits; few = all.1; small = below_power (length bytes) bytes all.0 (omega arith) }

abbrev tail : Bool → Bool → Bool → ℕ → ℕ → ℕ → List ℕ
tail t1 t2 t3 a b c = cond t1 [] (cond t2 (46 ∷ a ∷ []) (cond t3 (46 ∷ a ∷ b ∷ []) (46 ∷ a ∷ b ∷ c ∷ [])))

tail_four : (t1 t2 t3 : Bool) (a b c : ℕ) → length (tail t1 t2 t3 a b c) ≤ 4
tail_four true t2 t3 a b c = omega arith
tail_four false true t3 a b c = omega arith
tail_four false false true a b c = omega arith
tail_four false false false a b c = omega arith

tail_three : (t1 t2 t3 : Bool) (a b c : ℕ) → t3 ≡ true → length (tail t1 t2 t3 a b c) ≤ 3
tail_three true t2 t3 a b c is = omega arith
tail_three false true t3 a b c is = omega arith
tail_three false false true a b c is = omega arith
tail_three false false false a b c is = cc

tail_two : (t1 t2 t3 : Bool) (a b c : ℕ) → t2 ≡ true → length (tail t1 t2 t3 a b c) ≤ 2
tail_two true t2 t3 a b c is = omega arith
tail_two false true t3 a b c is = omega arith
tail_two false false t3 a b c is = cc

-- micrometres of so many digits behind the point are below a millimetre, and take no more digits
fraction_shorter : (bytes : List ℕ) (m q : ℕ) → fraction_um bytes ≡ Some m → (m < 1000) × (length (fraction_text (1000 * q + m)) ≤ 1 + length bytes)
fraction_shorter bytes m q is = by bytes (fraction_value bytes m is)
  where
    by : (bytes : List ℕ) → IsFraction bytes m → (m < 1000) × (length (fraction_text (1000 * q + m)) ≤ 1 + length bytes)
    by [] value = absurd (let some = value.some in omega arith)
    by (a ∷ []) value =
        let f = value.f in
        let small : f < 10 = value.small in
        let is : m ≡ f * 100 = value.is in
        let n = 1000 * q + m in
        let tenths : nat_eq (n % 100) 0 ≡ true = (let none : n % 100 ≡ 0 = omega (arith, is) in rw none refl) in
        (omega (arith, is, small), tail_two (nat_eq (n % 1000) 0) (nat_eq (n % 100) 0) (nat_eq (n % 10) 0) _ _ _ tenths)
    by (a ∷ b ∷ []) value =
        let f = value.f in
        let small : f < 100 = value.small in
        let is : m ≡ f * 10 = value.is in
        let n = 1000 * q + m in
        let hundredths : nat_eq (n % 10) 0 ≡ true = (let none : n % 10 ≡ 0 = omega (arith, is) in rw none refl) in
        (omega (arith, is, small), tail_three (nat_eq (n % 1000) 0) (nat_eq (n % 100) 0) (nat_eq (n % 10) 0) _ _ _ hundredths)
    by (a ∷ b ∷ c ∷ []) value =
        let f = value.f in
        let small : f < 1000 = value.small in
        let is : m ≡ f * 1 = value.is in
        let n = 1000 * q + m in
        (omega (arith, is, small), tail_four (nat_eq (n % 1000) 0) (nat_eq (n % 100) 0) (nat_eq (n % 10) 0) _ _ _)
    by (a ∷ b ∷ c ∷ d ∷ more) value = absurd (let few = value.few in omega arith)

-- the spelling of micrometres without a sign
abbrev amount : ℕ → List ℕ
amount n = decimal (n / 1000) ++ fraction_text n

record IsSum (whole fraction : Option ℕ) (n : ℕ) : Type 0 where
  a : ℕ
  b : ℕ
  whole_is : whole ≡ Some a
  fraction_is : fraction ≡ Some b
  sum : n ≡ a + b

sum_by : (whole fraction : Option ℕ) (n : ℕ) → sum_of whole fraction ≡ Some n → IsSum whole fraction n
sum_by None fraction n is = cc
sum_by (Some a) None n is = cc
sum_by (Some a) (Some b) n is = record { a = a; b = b; whole_is = refl; fraction_is = refl; sum = (let same : a + b ≡ n = cc in sym same) }

amount_shorter : (bytes : List ℕ) (n : ℕ) → unsigned_um bytes ≡ Some n → length (amount n) ≤ length bytes
amount_shorter bytes n is = by (position is_point bytes) refl is
  where
    by : (place : Option ℕ) → position is_point bytes ≡ place → um_round bytes place ≡ Some n → length (amount n) ≤ length bytes
    by None none is =
        let whole = whole_shorter bytes n is in
        let k = whole.k in
        let n_is : n ≡ 1000 * k = whole.is in
        let front : n / 1000 ≡ k = omega (arith, n_is) in
        let rest : n % 1000 ≡ 0 = omega (arith, n_is) in
        let parts = length-append (decimal (n / 1000)) (fraction_text n) in
        let text : length (fraction_text n) ≡ 0 = rw rest refl in
        let digits : length (decimal (n / 1000)) ≤ length bytes = rw front whole.few in omega (arith, parts, text, digits)
    by (Some point) some is =
        let sum = sum_by (whole_um (take point bytes)) (fraction_um (drop (point + 1) bytes)) n is in
        let whole = whole_shorter (take point bytes) sum.a sum.whole_is in
        let k = whole.k in
        let b = sum.b in
        let behind = fraction_shorter (drop (point + 1) bytes) b k sum.fraction_is in
        let n_is : n ≡ 1000 * k + b = (let first = sum.sum in let second = whole.is in omega (arith, first, second)) in
        let front : n / 1000 ≡ k = omega (arith, n_is, behind.0) in
        let parts = length-append (decimal (n / 1000)) (fraction_text n) in
        let digits : length (decimal (n / 1000)) ≤ length (take point bytes) = rw front whole.few in
        let text : length (fraction_text n) ≤ 1 + length (drop (point + 1) bytes) = rw n_is behind.1 in
        let within = (position-Some is_point bytes point 0 some).0 in
        let before = length-take-le point bytes (omega (arith, within)) in
        let rest = length-drop (point + 1) bytes in omega (arith, parts, digits, text, within, before, rest)

abbrev sign_length : Bool → ℕ
sign_length true = 1
sign_length false = 0

signed_shorter : (negative : Bool) (n : ℕ) → length (mm_text (with_sign negative n)) ≤ sign_length negative + length (amount n)
signed_shorter false n = omega arith
signed_shorter true zero = omega arith
signed_shorter true (suc n) = omega arith

without_length : (word : List ℕ) → length word ≡ sign_length (has_sign word) + length (without_sign word)
without_length [] = refl
without_length (b ∷ rest) = by (nat_eq b 45)
  where
    by : (t : Bool) → length (b ∷ rest) ≡ sign_length t + length (cond t rest (b ∷ rest))
    by true = omega arith
    by false = omega arith

record IsLimited (negative : Bool) (o : Option ℕ) (z : ℤ) : Type 0 where
  n : ℕ
  some : o ≡ Some n
  signed : with_sign negative n ≡ z

limited : (negative : Bool) (o : Option ℕ) (z : ℤ) → option_map (with_sign negative) (at_most 1000000000 o) ≡ Some z → IsLimited negative o z
limited negative None z is = cc
limited negative (Some n) z is = by (nat_le n 1000000000) is
  where
    by : (t : Bool) → option_map (with_sign negative) (cond t (Some n) None) ≡ Some z → IsLimited negative (Some n) z
    by true is = record { n = n; some = refl; signed = (let same : with_sign negative n ≡ z = cc in same) }
    by false is = cc

pub mm_shorter : (word : List ℕ) (z : ℤ) → mm_of word ≡ Some z → length (mm_text z) ≤ length word
mm_shorter word z is =
    let read = limited (has_sign word) (unsigned_um (without_sign word)) z is in
    let text : length (mm_text z) ≤ sign_length (has_sign word) + length (amount read.n) = subst (λ (y : ℤ). length (mm_text y) ≤ sign_length (has_sign word) + length (amount read.n)) read.signed (signed_shorter (has_sign word) read.n) in
    let rest = amount_shorter (without_sign word) read.n read.some in
    let whole = without_length word in omega (arith, text, rest, whole)
