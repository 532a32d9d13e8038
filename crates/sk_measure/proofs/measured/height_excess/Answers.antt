use Rattle.std.proofs.Common.{◌≡◌, pos, ◌-ℤ◌, ◌*ℤ◌, ◌≤◌, ◌*◌, ◌^◌, unsigned_abs, FitsSigned, arith, to_z-of_z, refl}
use Rattle.std.proofs.lemmas.Int.{ints}
use Rattle.std.specs.Int.{w64, w128}
use Rattle.sk_measure.specs.Offsets.{billion, signed, height_excess}
use Rattle.sk_measure.proofs.Bounds.{product_bound, difference_bound}
use Rattle.sk_measure.proofs.measured.height_excess.Goals as goal

pub returns-clause-value : goal.returns-clause-value
returns-clause-value c =
    let len64 : FitsSigned w64 c.args.len.0 = omega (arith, ints) in
    let len128 : FitsSigned w128 c.args.len.0 = omega (arith, ints) in
    let asked : FitsSigned w128 (pos 1000 *ℤ c.args.len.0) = omega (arith, ints) in
    let height = c.ranges.height in
    let size : unsigned_abs c.signed.result ≡ unsigned_abs c.args.height = simp to_z-of_z at c.signed.ensures.size in
    let first : FitsSigned w128 c.signed.result = record { sfits = c.signed.type_inv } in
    let second : FitsSigned w128 c.scaled.result = record { sfits = c.scaled.type_inv } in
    let all : FitsSigned w128 (c.signed.result -ℤ c.scaled.result) = omega (arith, ints) in
    let sided : c.signed.result ≡ signed c.args.side c.args.height = simp to_z-of_z at c.signed.ensures.value in
    let scaled : c.scaled.result ≡ pos billion *ℤ (pos 1000 *ℤ c.args.len.0) = simp to_z-of_z at (rw c.from.ensures at c.scaled.ensures.value) in
    let told : c.signed.result -ℤ c.scaled.result ≡ height_excess c.args.len.0 c.args.side c.args.height = rw (sided, scaled) refl in
    simp to_z-of_z told

pub returns-clause-within : goal.returns-clause-within
returns-clause-within c =
    let len64 : FitsSigned w64 c.args.len.0 = omega (arith, ints) in
    let len128 : FitsSigned w128 c.args.len.0 = omega (arith, ints) in
    let asked : FitsSigned w128 (pos 1000 *ℤ c.args.len.0) = omega (arith, ints) in
    let height = c.ranges.height in
    let size : unsigned_abs c.signed.result ≡ unsigned_abs c.args.height = simp to_z-of_z at c.signed.ensures.size in
    let first : FitsSigned w128 c.signed.result = record { sfits = c.signed.type_inv } in
    let second : FitsSigned w128 c.scaled.result = record { sfits = c.scaled.type_inv } in
    let all : FitsSigned w128 (c.signed.result -ℤ c.scaled.result) = omega (arith, ints) in
    let scaled : c.scaled.result ≡ pos billion *ℤ (pos 1000 *ℤ c.args.len.0) = simp to_z-of_z at (rw c.from.ensures at c.scaled.ensures.value) in
    let few : unsigned_abs c.args.len.0 ≤ billion = omega (arith, ints) in
    let nano : unsigned_abs (pos 1000 *ℤ c.args.len.0) ≤ 1000 * billion = product_bound (pos 1000) c.args.len.0 1000 billion (omega arith) few in
    let most = product_bound (pos billion) (pos 1000 *ℤ c.args.len.0) billion (1000 * billion) (omega arith) nano in
    let both = difference_bound c.signed.result c.scaled.result (5 * billion * 2 ^ 60) (billion * (1000 * billion)) (rw size c.requires.height) (rw scaled most) in
    let told : unsigned_abs (c.signed.result -ℤ c.scaled.result) ≤ 2 ^ 63 * billion = omega (arith, both) in
    simp to_z-of_z told
