-- Words as they are printed are read back.
use Rattle.std.proofs.Common.{◌≡◌, ℕ, suc, ◌<◌, ◌≤◌, ◌^◌, true, false, nat_le, List, [], ◌∷◌, get_or, Some, refl, ap, subst, arith, append-nil, ℤ, pos, negsuc}
use Rattle.std.specs.Prelude.{option_and_then}
use Rattle.std.specs.Fmt.{decimal}
use Rattle.std.proofs.lemmas.Bool.Decides.{nat_tests}
use Rattle.std.proofs.lemmas.Fmt.{decimal_is_IsNumeral, first_decimal}
use Rattle.std.proofs.lemmas.Int.{ints}
use Rattle.sk_base.specs.declared.Name.{Name}
use Rattle.sk_base.specs.declared.Name.TheVariants.{Con, Step}
use Rattle.sk_base.specs.Bounds.{IsWithin}
use Rattle.sk_base.specs.Millimetres.{has_sign, without_sign}
use Rattle.sk_base.specs.Spelling.{whole_text}
use Rattle.sk_lines.specs.ClusterWords.{begins_with_zero, plain_number, cluster_named}
use Rattle.sk_lines.specs.Quantities.{not_negative}
use Rattle.sk_text.specs.ClusterName.{cluster_name}
use Rattle.sk_text.proofs.ReadBack.{digits_of-decimal, unsigned}
use Rattle.sk_claims.specs.ClaimLines.{whole_of, count_of, tolerance_limit}
use Rattle.sk_claims.specs.Printed.{HasPlainNumber}

no_zero : (bytes : List ℕ) → 48 < get_or bytes 0 0 → begins_with_zero bytes ≡ false
no_zero [] first = absurd (omega (arith, first))
no_zero (b ∷ bytes) first = grind (arith, nat_tests)

number_back : (k : ℕ) → 0 < k → k ≤ 999999 → plain_number 6 (decimal k) ≡ Some k
number_back k some small = rw (no_zero (decimal k) (first_decimal k some (omega arith)), digits_of-decimal 6 k (omega arith) (omega arith) (omega arith)) refl

pub cluster_back : (n : Name) → HasPlainNumber n → cluster_named (cluster_name n) ≡ Some n
cluster_back (Con k) plain = rw (number_back k plain.0 plain.1) refl
cluster_back (Step k) plain = rw (number_back k plain.0 plain.1) refl

-- a number without a sign
bare : (n : ℕ) → n < 2 ^ 64 → (has_sign (decimal n) ≡ false) × (without_sign (decimal n) ≡ decimal n)
bare n wide =
    let numeral = decimal_is_IsNumeral n wide in
    subst (λ (bytes : List ℕ). (has_sign bytes ≡ false) × (without_sign bytes ≡ bytes)) (append-nil (decimal n)) (unsigned (decimal n) [] numeral.0)

pub whole_back : (most : ℕ) (z : ℤ) → most ≤ 2 ^ 62 → IsWithin most z → whole_of most (whole_text z) ≡ Some z
whole_back most (pos n) few within =
    let less : n ≤ most = omega (arith, ints) in
    let test : nat_le n most ≡ true = grind (arith, nat_tests) in
    let plain = bare n (omega arith) in
    rw (plain.0, plain.1, digits_of-decimal 19 n (omega arith) (omega arith) (omega arith)) (rw test refl)
whole_back most (negsuc n) few within =
    let less : suc n ≤ most = omega (arith, ints) in
    let test : nat_le (suc n) most ≡ true = grind (arith, nat_tests) in
    rw (digits_of-decimal 19 (suc n) (omega arith) (omega arith) (omega arith)) (rw test refl)

pub tolerance_back : (n : ℕ) → n ≤ 2 ^ 62 → count_of tolerance_limit (decimal n) ≡ Some n
tolerance_back n few = ap (λ o. option_and_then not_negative o) (whole_back tolerance_limit (pos n) (omega arith) (omega (arith, ints), omega (arith, ints)))
