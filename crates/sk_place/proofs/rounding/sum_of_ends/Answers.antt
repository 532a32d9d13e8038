use Rattle.std.proofs.Common.{FitsSigned, arith, ◌+ℤ◌}
use Rattle.std.specs.Int.{w128}
use Rattle.std.proofs.lemmas.Int.{ints, to_z-of_z}
use Rattle.sk_place.proofs.Midpoints.{ends_limit}
use Rattle.sk_place.proofs.rounding.sum_of_ends.Goals as goal

pub overflow_add-result : goal.overflow_add-result
overflow_add-result g c =
    let limit = ends_limit g.G.Grid.BITS c.args.x.now g.G.Grid.few c.requires in
    let lo : FitsSigned w128 c.args.x.now.lo = omega (arith, ints, limit) in
    let hi : FitsSigned w128 c.args.x.now.hi = omega (arith, ints, limit) in
    rw c.ends-lo.ensures (simp to_z-of_z (omega (arith, ints, limit)))

pub returns-clause-value : goal.returns-clause-value
returns-clause-value g c =
    let limit = ends_limit g.G.Grid.BITS c.args.x.now g.G.Grid.few c.requires in
    let lo : FitsSigned w128 c.args.x.now.lo = omega (arith, ints, limit) in
    let hi : FitsSigned w128 c.args.x.now.hi = omega (arith, ints, limit) in
    let sum : FitsSigned w128 (c.args.x.now.lo +ℤ c.args.x.now.hi) = omega (arith, ints, limit) in
    rw c.ends-lo.ensures (simp to_z-of_z)

pub returns-clause-limit : goal.returns-clause-limit
returns-clause-limit g c =
    let limit = ends_limit g.G.Grid.BITS c.args.x.now g.G.Grid.few c.requires in
    let lo : FitsSigned w128 c.args.x.now.lo = omega (arith, ints, limit) in
    let hi : FitsSigned w128 c.args.x.now.hi = omega (arith, ints, limit) in
    let sum : FitsSigned w128 (c.args.x.now.lo +ℤ c.args.x.now.hi) = omega (arith, ints, limit) in
    rw c.ends-lo.ensures (simp to_z-of_z (omega (arith, ints, limit)))
