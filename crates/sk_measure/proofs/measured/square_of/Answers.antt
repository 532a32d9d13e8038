use Rattle.std.proofs.Common.{FitsSigned, arith, to_z-of_z}
use Rattle.std.proofs.lemmas.Int.{ints}
use Rattle.std.specs.Int.{w64}
use Rattle.sk_measure.proofs.measured.square_of.Goals as goal

pub returns-clause-small : goal.returns-clause-small
returns-clause-small c = λ most x y z t.
    let x64 : FitsSigned w64 c.args.x = omega (arith, ints, c.requires.x) in
    let y64 : FitsSigned w64 c.args.y = omega (arith, ints, c.requires.y) in
    let z64 : FitsSigned w64 c.args.z = omega (arith, ints, c.requires.z) in
    let t64 : FitsSigned w64 c.args.t = omega (arith, ints, c.requires.t) in
    let across = simp to_z-of_z at (c.squared_difference.ensures.small most) in
    let up = simp to_z-of_z at (c.squared_difference-2.ensures.small most) in
    omega (arith, across x z, up y t)
