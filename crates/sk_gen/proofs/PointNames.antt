-- The names of the points.
use Rattle.std.proofs.Common.{◌≡◌, ℕ, ◌<◌, ◌≤◌, true, nat_le, List, [], ◌∷◌, length, refl, arith}
use Rattle.std.specs.List.{list_all}
use Rattle.std.specs.Char.{digit_value}
use Rattle.std.specs.Str.Parse.{AllDigits}
use Rattle.std.specs.Fmt.{decimal}
use Rattle.std.proofs.lemmas.Bool.Decides.{nat_tests}
use Rattle.std.proofs.lemmas.Fmt.{decimal_is_IsNumeral, length-decimal-le}
use Rattle.sk_base.specs.Labels.{is_name, is_name_byte}
use Rattle.sk_gen.specs.DatumSketch.{point_name}

digit_in_name : (c : ℕ) → digit_value c < 10 → is_name_byte c ≡ true
digit_in_name c small = grind (arith, nat_tests)

digits_in_name : (bytes : List ℕ) → AllDigits 10 bytes → list_all is_name_byte bytes ≡ true
digits_in_name [] all = refl
digits_in_name (b ∷ bytes) all = rw (digit_in_name b all.0) (digits_in_name bytes all.1)

pub point_is_named : (k : ℕ) → k ≤ 998 → is_name (point_name k) ≡ true
point_is_named k few =
    let digits = digits_in_name (decimal k) (decimal_is_IsNumeral k (omega arith)).0.1 in
    let short = length-decimal-le 3 k (omega arith) (omega arith) (omega arith) in
    let fits : nat_le (length (decimal k)) 15 ≡ true = grind (arith, nat_tests) in
    rw (fits, digits) refl
