use Rattle.std.proofs.Common.{◌+ℤ◌, ◌*ℤ◌, FitsSigned, arith, to_z-of_z}
use Rattle.std.specs.Int.{w128}
use Rattle.sk_base.proofs.Magnitudes.{product_within, fits}
use Rattle.sk_dxf.proofs.Products.{sum_within}
use Rattle.sk_dxf.proofs.rounding.sum_of_parts.Goals as goal

pub overflow_mul-a : goal.overflow_mul-a
overflow_mul-a c =
    let a = c.ranges.a in
    let x = c.ranges.x in
    simp to_z-of_z (fits _ _ (product_within 2000000000 9223372036854775807 _ _ c.requires.a c.requires.x) (omega arith))

pub overflow_mul-b : goal.overflow_mul-b
overflow_mul-b c =
    let b = c.ranges.b in
    let y = c.ranges.y in
    simp to_z-of_z (fits _ _ (product_within 2000000000 9223372036854775807 _ _ c.requires.b c.requires.y) (omega arith))

pub overflow_add-a : goal.overflow_add-a
overflow_add-a c =
    let r = c.requires in
    let a = c.ranges.a in
    let x = c.ranges.x in
    let b = c.ranges.b in
    let y = c.ranges.y in
    let one : FitsSigned w128 (c.args.a *ℤ c.args.x) = fits _ _ (product_within 2000000000 9223372036854775807 _ _ r.a r.x) (omega arith) in
    let two : FitsSigned w128 (c.args.b *ℤ c.args.y) = fits _ _ (product_within 2000000000 9223372036854775807 _ _ r.b r.y) (omega arith) in
    simp to_z-of_z (fits _ _ (sum_within 2000000000 9223372036854775807 _ _ _ _ r.a r.x r.b r.y) (omega arith))

pub returns : goal.returns
returns c =
    let r = c.requires in
    let a = c.ranges.a in
    let x = c.ranges.x in
    let b = c.ranges.b in
    let y = c.ranges.y in
    let one : FitsSigned w128 (c.args.a *ℤ c.args.x) = fits _ _ (product_within 2000000000 9223372036854775807 _ _ r.a r.x) (omega arith) in
    let two : FitsSigned w128 (c.args.b *ℤ c.args.y) = fits _ _ (product_within 2000000000 9223372036854775807 _ _ r.b r.y) (omega arith) in
    let all : FitsSigned w128 ((c.args.a *ℤ c.args.x) +ℤ (c.args.b *ℤ c.args.y)) = fits _ _ (sum_within 2000000000 9223372036854775807 _ _ _ _ r.a r.x r.b r.y) (omega arith) in
    let result : FitsSigned w128 c.nearest.result = record { sfits = c.nearest.type_inv } in
    let value = simp to_z-of_z at c.nearest.ensures.value in
    record { value = simp to_z-of_z value }
