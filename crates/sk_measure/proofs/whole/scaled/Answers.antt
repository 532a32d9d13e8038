use Rattle.std.proofs.Common.{◌≡◌, ◌^◌, FitsSigned, arith, to_z-of_z}
use Rattle.std.proofs.lemmas.Int.{fits_signed_mul}
use Rattle.std.specs.Int.{w128}
use Rattle.sk_measure.proofs.Bounds.{product_bound}
use Rattle.sk_measure.proofs.whole.scaled.Goals as goal

pub overflow_mul-result : goal.overflow_mul-result
overflow_mul-result c =
    let factor = c.ranges.factor in
    let from : FitsSigned w128 c.from.result = record { sfits = c.from.type_inv } in
    let is : c.from.result ≡ c.args.factor = simp to_z-of_z at c.from.ensures in
    rw (to_z-of_z from, to_z-of_z c.ranges.number, is) (fits_signed_mul w128 c.args.factor c.args.number (2 ^ 31) (2 ^ 64) c.requires.factor c.requires.number (omega arith))

pub returns-clause-value : goal.returns-clause-value
returns-clause-value c =
    let factor = c.ranges.factor in
    let from : FitsSigned w128 c.from.result = record { sfits = c.from.type_inv } in
    let is : c.from.result ≡ c.args.factor = simp to_z-of_z at c.from.ensures in
    rw (to_z-of_z from, to_z-of_z c.ranges.number, is) (to_z-of_z (fits_signed_mul w128 c.args.factor c.args.number (2 ^ 31) (2 ^ 64) c.requires.factor c.requires.number (omega arith)))

pub returns-clause-within : goal.returns-clause-within
returns-clause-within c =
    rw (returns-clause-value c) (product_bound c.args.factor c.args.number (2 ^ 31) (2 ^ 64) c.requires.factor c.requires.number)
