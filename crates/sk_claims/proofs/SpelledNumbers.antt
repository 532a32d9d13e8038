-- Numbers and names of clusters, as a claim spells them.
use Rattle.std.proofs.Common.{ℕ, suc, ◌≤◌, ◌^◌, refl, arith, ℤ, pos, negsuc}
use Rattle.std.specs.Fmt.{decimal}
use Rattle.std.proofs.lemmas.Int.{ints}
use Rattle.sk_base.specs.declared.Name.{Name}
use Rattle.sk_base.specs.declared.Name.TheVariants.{Con, Step}
use Rattle.sk_base.specs.Bounds.{IsWithin}
use Rattle.sk_base.specs.Spelling.{whole_text}
use Rattle.sk_lines.proofs.SolidLines.{IsSpelled, decimal_spelled}
use Rattle.sk_text.specs.ClusterName.{cluster_name}
use Rattle.sk_claims.specs.Printed.{HasPlainNumber}

pub count_spelled : (n : ℕ) → n ≤ 2 ^ 62 → IsSpelled (decimal n) 19
count_spelled n few = decimal_spelled 19 n (omega arith) (omega arith) (omega arith)

pub whole_spelled : (z : ℤ) → IsWithin 4611686018427387904 z → IsSpelled (whole_text z) 20
whole_spelled (pos n) within =
    let less : n ≤ 4611686018427387904 = omega (arith, ints) in
    let is = decimal_spelled 19 n (omega arith) (omega arith) (omega arith) in
    let few = is.few in record { some = is.some; few = omega arith; solid = is.solid }
whole_spelled (negsuc n) within =
    let less : suc n ≤ 4611686018427387904 = omega (arith, ints) in
    let is = decimal_spelled 19 (suc n) (omega arith) (omega arith) (omega arith) in
    let few = is.few in record { some = omega arith; few = omega arith; solid = (refl, is.solid) }

pub cluster_spelled : (n : Name) → HasPlainNumber n → IsSpelled (cluster_name n) 7
cluster_spelled (Con k) plain =
    let high = plain.1 in
    let is = decimal_spelled 6 k (omega arith) (omega arith) (omega arith) in
    let few = is.few in record { some = omega arith; few = omega arith; solid = (refl, is.solid) }
cluster_spelled (Step k) plain =
    let high = plain.1 in
    let is = decimal_spelled 6 k (omega arith) (omega arith) (omega arith) in
    let few = is.few in record { some = omega arith; few = omega arith; solid = (refl, is.solid) }
