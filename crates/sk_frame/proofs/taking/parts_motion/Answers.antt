use Rattle.std.proofs.Common.{FitsSigned, refl, arith, to_z-of_z}
use Rattle.std.specs.Int.{w128}
use Rattle.std.proofs.lemmas.Int.{ints}
use Rattle.sk_frame.proofs.taking.parts_motion.Goals as goal

pub returns : goal.returns
returns g c =
    let turn_x : FitsSigned w128 c.args.f.now.turn.x = omega (arith, ints, c.requires.turn.short.0.0, c.requires.turn.short.0.1) in
    let turn_y : FitsSigned w128 c.args.f.now.turn.y = omega (arith, ints, c.requires.turn.short.1.0, c.requires.turn.short.1.1) in
    let from_x : FitsSigned w128 c.args.f.now.from.x = omega (arith, ints, c.requires.from.0.0, c.requires.from.0.1) in
    let from_y : FitsSigned w128 c.args.f.now.from.y = omega (arith, ints, c.requires.from.1.0, c.requires.from.1.1) in
    let to_x : FitsSigned w128 c.args.f.now.to.x = omega (arith, ints, c.requires.to.0.0, c.requires.to.0.1) in
    let to_y : FitsSigned w128 c.args.f.now.to.y = omega (arith, ints, c.requires.to.1.0, c.requires.to.1.1) in
    rw (c.ratio.ensures, c.ratio-2.ensures, c.length.ensures, c.length-2.ensures, c.ratio-3.ensures, c.ratio-4.ensures) (simp to_z-of_z refl)
