-- Numbers by their digits.
use Rattle.std.proofs.Common.{◌≡◌, inl, inr, ℕ, zero, suc, ◌<◌, ◌≤◌, ◌^◌, Bool, true, false, cond, List, length, get_or, refl, sym, ap, ◌∙◌, subst, arith}
use Rattle.std.specs.Prelude.{Option, Some, None, IfSome, IfNone, ◌≢◌}
use Rattle.std.specs.Fmt.{decimal}
use Rattle.std.specs.Str.Parse.{digits_value, AllDigits}
use Rattle.std.proofs.lemmas.Bool.Decides.{eqb_tells}
use Rattle.std.proofs.lemmas.Fmt.{decimal-digits_value, first_decimal, length-decimal-le}
use Rattle.std.proofs.lemmas.Str.Parse.{IsNumeralModel}
use Rattle.sk_base.specs.Millimetres.{is_digits, digits_of}
use Rattle.sk_base.proofs.Decimals.{is_digits_some, is_digits_all}
use Rattle.sk_text.proofs.ReadBack.{digits_of-decimal}
use Rattle.sk_request.specs.Asking.{LeadsWithZero}

own : IsNumeralModel (AllDigits 10) (digits_value 10)
own = record { to = λ ds all. all; from = λ ds all. all; same = λ ds all. refl }

-- digits without a leading zero are what is written of their number
pub spelled : (most : ℕ) (value : List ℕ) (n : ℕ) → digits_of most value ≡ Some n → n < 2 ^ 64 → ¬ LeadsWithZero value → value ≡ decimal n
spelled most value n read few plain = by_digits (is_digits most value) refl read
  where
    by_digits : (b : Bool) → is_digits most value ≡ b → cond b (Some (digits_value 10 value)) None ≡ Some n → value ≡ decimal n
    by_digits false not_digits is = cc
    by_digits true are_digits is =
        let number : digits_value 10 value ≡ n = cc in
        let some = is_digits_some most value are_digits in
        let alone : get_or value 0 0 ≡ 48 → length value ≡ 1 = λ leads. elim (eqb_tells (length value) 1) [ inl one ↦ one.1 | inr more ↦ absurd (plain (let other = more.1 in omega (arith, some, other), leads)) ] in
        sym (decimal-digits_value own value (is_digits_all most value are_digits).0 some alone (omega (arith, number, few))) ∙ ap decimal number

-- what is written of a number reads as it
pub read_back : (most : ℕ) (value : List ℕ) (k : ℕ) → 0 < most → k < 10 ^ most → k < 2 ^ 64 → value ≡ decimal k → digits_of most value ≡ Some k
read_back most value k some few wide is = subst (λ bytes. digits_of most bytes ≡ Some k) (sym is) (digits_of-decimal most k some few wide)

-- and has no leading zero
pub no_zero_leads : (value : List ℕ) (k : ℕ) → k < 2 ^ 64 → value ≡ decimal k → ¬ LeadsWithZero value
no_zero_leads value zero few is leads =
    let short = length-decimal-le 1 0 (omega arith) (omega arith) (omega arith) in
    let long = subst (λ bytes. 1 < length bytes) is leads.0 in omega (arith, short, long)
no_zero_leads value (suc k) few is leads =
    let first = first_decimal (suc k) (omega arith) few in
    let zero_first = subst (λ bytes. get_or bytes 0 0 ≡ 48) is leads.1 in omega (arith, first, zero_first)

-- what digits are read as is what they spell; where they aren't read they spell no such number
pub if_spelled : (most : ℕ) (value : List ℕ) (r : Option ℕ) → 0 < most → 10 ^ most ≤ 2 ^ 64 → r ≡ digits_of most value → IfSome r (λ n. n < 10 ^ most) → ¬ LeadsWithZero value
    → IfSome r (λ n. value ≡ decimal n) × IfNone r ((n : ℕ) → n < 10 ^ most → value ≢ decimal n)
if_spelled most value (Some n) some small read below plain = (spelled most value n (sym read) (omega (arith, below, small)) plain, tt)
if_spelled most value None some small read below plain =
    (tt, λ n few is. (let back = read_back most value n some few (omega (arith, few, small)) is in let never = read in cc))
