use Rattle.std.proofs.Common.{FitsSigned, arith, to_z-of_z, refl, w8}
use Rattle.std.proofs.lemmas.Int.{ints}
use Rattle.std.specs.Int.{w128}
use Rattle.sk_orient.proofs.placed.turn_placed.Goals as goal

pub returns : goal.returns
returns c =
    let answer : FitsSigned w8 c.placed_sign.result = omega (arith, ints) in
    let number : FitsSigned w128 c.cross.result = omega (arith, ints) in
    let sign = simp to_z-of_z at c.placed_sign.ensures.sign in
    simp to_z-of_z (rw (sign, c.cross.ensures, c.way.ensures.way, c.way-2.ensures.way, c.spot.ensures.spot, c.spot-2.ensures.spot, c.spot-first.ensures.spot) refl)
