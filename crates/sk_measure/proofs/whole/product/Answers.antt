use Rattle.std.proofs.Common.{◌≡◌, ◌^◌, FitsSigned, arith, to_z-of_z}
use Rattle.std.proofs.lemmas.Int.{fits_signed_mul}
use Rattle.std.specs.Int.{w128}
use Rattle.sk_measure.proofs.Bounds.{product_bound}
use Rattle.sk_measure.proofs.whole.product.Goals as goal

pub overflow_mul-result : goal.overflow_mul-result
overflow_mul-result c =
    let first = c.ranges.a in
    let second = c.ranges.b in
    let from_first : FitsSigned w128 c.from.result = record { sfits = c.from.type_inv } in
    let from_second : FitsSigned w128 c.from-2.result = record { sfits = c.from-2.type_inv } in
    let first_is : c.from.result ≡ c.args.a = simp to_z-of_z at c.from.ensures in
    let second_is : c.from-2.result ≡ c.args.b = simp to_z-of_z at c.from-2.ensures in
    rw (to_z-of_z from_first, to_z-of_z from_second, first_is, second_is) (fits_signed_mul w128 c.args.a c.args.b (2 ^ 31) (2 ^ 31) c.requires.a c.requires.b (omega arith))

pub returns-clause-value : goal.returns-clause-value
returns-clause-value c =
    let first = c.ranges.a in
    let second = c.ranges.b in
    let from_first : FitsSigned w128 c.from.result = record { sfits = c.from.type_inv } in
    let from_second : FitsSigned w128 c.from-2.result = record { sfits = c.from-2.type_inv } in
    let first_is : c.from.result ≡ c.args.a = simp to_z-of_z at c.from.ensures in
    let second_is : c.from-2.result ≡ c.args.b = simp to_z-of_z at c.from-2.ensures in
    rw (to_z-of_z from_first, to_z-of_z from_second, first_is, second_is) (to_z-of_z (fits_signed_mul w128 c.args.a c.args.b (2 ^ 31) (2 ^ 31) c.requires.a c.requires.b (omega arith)))

pub returns-clause-within : goal.returns-clause-within
returns-clause-within c =
    rw (returns-clause-value c) (product_bound c.args.a c.args.b (2 ^ 31) (2 ^ 31) c.requires.a c.requires.b)
