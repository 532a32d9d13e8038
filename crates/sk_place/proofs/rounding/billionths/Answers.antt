use Rattle.std.proofs.Common.{◌≤◌, ◌^◌, ◌*◌, ◌*ℤ◌, pos, unsigned_abs, FitsSigned, arith, lit≤}
use Rattle.std.specs.Int.{w64, w128}
use Rattle.std.proofs.lemmas.Int.{ints, to_z-of_z}
use Rattle.sk_base.specs.Bounds.{IsWithin as IsAtMost}
use Rattle.sk_place.proofs.Midpoints.{within_50, parts_within}
use Rattle.sk_place.proofs.rounding.billionths.Goals as goal

pub sum_of_ends-requires : goal.sum_of_ends-requires
sum_of_ends-requires g c = within_50 1 g.G.Grid.BITS c.args.x.now (lit≤ tt) c.requires

pub halved-requires : goal.halved-requires
halved-requires g c =
    let limit = c.sum_of_ends.ensures.limit in
    let sum : FitsSigned w128 c.sum_of_ends.result = omega (arith, ints, limit) in
    let product : FitsSigned w128 (c.sum_of_ends.result *ℤ pos 1000000000) = omega (arith, ints, limit) in
    simp to_z-of_z (rw c.sum_of_ends.ensures.value (parts_within 1 g.G.Grid.BITS 1000000000 (2 ^ 60) c.args.x.now c.requires (lit≤ tt)))

pub returns-clause-within : goal.returns-clause-within
returns-clause-within g c =
    let limit = c.sum_of_ends.ensures.limit in
    let sum : FitsSigned w128 c.sum_of_ends.result = omega (arith, ints, limit) in
    let product : FitsSigned w128 (c.sum_of_ends.result *ℤ pos 1000000000) = omega (arith, ints, limit) in
    let below : unsigned_abs (c.sum_of_ends.result *ℤ pos 1000000000) ≤ 2 * 2 ^ g.G.Grid.BITS * 2000000000 =
    rw c.sum_of_ends.ensures.value (parts_within 1 g.G.Grid.BITS 1000000000 2000000000 c.args.x.now c.requires (lit≤ tt)) in
    let within : IsAtMost 2000000000 c.halved.result = c.halved.ensures.within 2000000000 (simp to_z-of_z below) in
    let fits : FitsSigned w64 c.halved.result = omega (arith, ints, within) in
    simp to_z-of_z within
