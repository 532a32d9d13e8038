use Rattle.std.proofs.Common.{rules, FitsSigned, pos, ◌-ℤ◌, unsigned_abs, arith}
use Rattle.std.specs.Int.{w128}
use Rattle.std.proofs.lemmas.Int.{ints, to_z-of_z}
use Rattle.sk_base.proofs.Quotients.{size_within}
use Rattle.sk_base.proofs.rounding.nearest.Goals as goal

pub returns-then-n-lt0-clause-within : goal.returns-then-n-lt0-clause-within
returns-then-n-lt0-clause-within c = λ most below.
    let small = size_within c.args.d (unsigned_abs c.args.n) most (omega arith) below in
    let n : FitsSigned w128 c.args.n = c.ranges.n in
    let value = simp to_z-of_z at c.nearest_size-size.ensures.value in
    let fits : FitsSigned w128 c.nearest_size-size.result = search rules in
    let minus : FitsSigned w128 (pos 0 -ℤ c.nearest_size-size.result) = omega (arith, ints, value) in
    simp to_z-of_z (omega (arith, ints, small, value))

pub returns-else-n-lt0-clause-within : goal.returns-else-n-lt0-clause-within
returns-else-n-lt0-clause-within c = λ most below.
    let small = size_within c.args.d (unsigned_abs c.args.n) most (omega arith) below in
    let n : FitsSigned w128 c.args.n = c.ranges.n in
    let value = simp to_z-of_z at c.nearest_size-size.ensures.value in
    let fits : FitsSigned w128 c.nearest_size-size.result = search rules in
    simp to_z-of_z (omega (arith, ints, small, value))
