use Rattle.std.proofs.Common.{FitsSigned, arith, to_z-of_z}
use Rattle.std.proofs.lemmas.Int.{ints}
use Rattle.std.specs.Int.{w64}
use Rattle.sk_measure.proofs.measured.given_squared.Goals as goal

pub returns-clause-within : goal.returns-clause-within
returns-clause-within c =
    let a = c.args.a.now in
    let b = c.args.b.now in
    let ax64 : FitsSigned w64 a.x.0 = omega (arith, ints, c.requires.a) in
    let ay64 : FitsSigned w64 a.y.0 = omega (arith, ints, c.requires.a) in
    let bx64 : FitsSigned w64 b.x.0 = omega (arith, ints, c.requires.b) in
    let by64 : FitsSigned w64 b.y.0 = omega (arith, ints, c.requires.b) in
    let small = simp to_z-of_z at (c.square_of.ensures.small 1000000000) in
    omega (arith, small c.requires.a.0 c.requires.a.1 c.requires.b.0 c.requires.b.1)
