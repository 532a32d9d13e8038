use Rattle.std.proofs.Common.{◌*◌, ◌*ℤ◌, ◌-ℤ◌, pos, FitsSigned, arith, to_z-of_z, refl}
use Rattle.std.proofs.lemmas.Int.{ints}
use Rattle.std.specs.Int.{w128}
use Rattle.sk_base.specs.Bounds.{IsWithin}
use Rattle.sk_orient.proofs.Products.{dot_within}
use Rattle.sk_orient.proofs.placed.height.Goals as goal

outward_within : (c : goal.After-offset) → IsWithin (2 * (2000000000 * 1152921504606846976)) c.dot-outward.result
outward_within c = rw c.dot-outward.ensures (dot_within 2000000000 1152921504606846976 c.normal.result c.spot.result c.normal.ensures.short c.spot.ensures.short)

difference_fits : (c : goal.After-offset) → FitsSigned w128 (c.dot-outward.result -ℤ (pos 1000000000 *ℤ c.offset.result))
difference_fits c = let bound = outward_within c in omega (arith, ints, bound.0, bound.1)

pub overflow_sub-result : goal.overflow_sub-result
overflow_sub-result c =
    let outward : FitsSigned w128 c.dot-outward.result = omega (arith, ints) in
    let offset : FitsSigned w128 c.offset.result = omega (arith, ints) in
    let scaled : FitsSigned w128 (pos 1000000000 *ℤ c.offset.result) = omega (arith, ints) in
    simp to_z-of_z (difference_fits c)

pub returns : goal.returns
returns c =
    let outward : FitsSigned w128 c.dot-outward.result = omega (arith, ints) in
    let offset : FitsSigned w128 c.offset.result = omega (arith, ints) in
    let scaled : FitsSigned w128 (pos 1000000000 *ℤ c.offset.result) = omega (arith, ints) in
    let difference = difference_fits c in
    simp to_z-of_z (rw (c.dot-outward.ensures, c.normal.ensures.normal, c.spot.ensures.spot, c.offset.ensures.offset) refl)
