use Rattle.std.proofs.Common.{◌≤◌, ◌^◌, ◌*◌, ℕ, unsigned_abs, FitsSigned, ap, ◌∙◌, arith}
use Rattle.std.specs.Int.{w64, w128}
use Rattle.std.proofs.lemmas.Int.{ints, to_z-of_z}
use Rattle.sk_base.specs.Bounds.{IsWithin as IsAtMost}
use Rattle.sk_base.specs.Nearest.{nearest}
use Rattle.sk_place.proofs.rounding.halved.Goals as goal

pub overflow_cast-result : goal.overflow_cast-result
overflow_cast-result g c =
    let n : FitsSigned w128 c.args.n = c.ranges.n in
    let below : unsigned_abs c.args.n ≤ 2 * c.unit.result * 2 ^ 60 = rw c.unit.ensures.value c.requires in
    let within = simp to_z-of_z at c.nearest.ensures.within (2 ^ 60) in
    let limit : IsAtMost (2 ^ 60) c.nearest.result = within below in
    let fits : FitsSigned w128 c.nearest.result = omega (arith, ints, limit) in
    simp to_z-of_z (omega (arith, ints, limit))

pub returns-clause-value : goal.returns-clause-value
returns-clause-value g c =
    let n : FitsSigned w128 c.args.n = c.ranges.n in
    let below : unsigned_abs c.args.n ≤ 2 * c.unit.result * 2 ^ 60 = rw c.unit.ensures.value c.requires in
    let within = simp to_z-of_z at c.nearest.ensures.within (2 ^ 60) in
    let limit : IsAtMost (2 ^ 60) c.nearest.result = within below in
    let fits : FitsSigned w128 c.nearest.result = omega (arith, ints, limit) in
    let small : FitsSigned w64 c.nearest.result = omega (arith, ints, limit) in
    let value = simp to_z-of_z at c.nearest.ensures.value in
    simp to_z-of_z (value ∙ ap (λ (unit : ℕ). nearest (2 * unit) c.args.n) c.unit.ensures.value)

pub returns-clause-within : goal.returns-clause-within
returns-clause-within g c = λ most short.
    let n : FitsSigned w128 c.args.n = c.ranges.n in
    let below : unsigned_abs c.args.n ≤ 2 * c.unit.result * 2 ^ 60 = rw c.unit.ensures.value c.requires in
    let within = simp to_z-of_z at c.nearest.ensures.within (2 ^ 60) in
    let limit : IsAtMost (2 ^ 60) c.nearest.result = within below in
    let fits : FitsSigned w128 c.nearest.result = omega (arith, ints, limit) in
    let small : FitsSigned w64 c.nearest.result = omega (arith, ints, limit) in
    let shorter : unsigned_abs c.args.n ≤ 2 * c.unit.result * most = rw c.unit.ensures.value short in
    let within_most = simp to_z-of_z at c.nearest.ensures.within most in
    simp to_z-of_z (within_most shorter)
