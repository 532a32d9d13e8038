use Rattle.std.proofs.Common.{◌-ℤ◌, FitsSigned, arith, to_z-of_z}
use Rattle.std.proofs.lemmas.Int.{ints}
use Rattle.std.specs.Int.{w128}
use Rattle.sk_orient.proofs.vector.way.Goals as goal

pub returns-clause-way : goal.returns-clause-way
returns-clause-way c =
    let from_x : FitsSigned w128 c.args.from.x = omega (arith, ints) in
    let from_y : FitsSigned w128 c.args.from.y = omega (arith, ints) in
    let to_x : FitsSigned w128 c.args.to.x = omega (arith, ints) in
    let to_y : FitsSigned w128 c.args.to.y = omega (arith, ints) in
    let x : FitsSigned w128 (c.args.to.x -ℤ c.args.from.x) = omega (arith, ints) in
    let y : FitsSigned w128 (c.args.to.y -ℤ c.args.from.y) = omega (arith, ints) in
    simp to_z-of_z
