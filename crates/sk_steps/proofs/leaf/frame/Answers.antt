use Rattle.sk_base.specs.Bounds.{IsFromTo}
use Rattle.std.proofs.Common.{◌≡◌, ℤ, unsigned_abs, subst, FitsSigned, arith, to_z-of_z}
use Rattle.std.specs.Int.{w32, w64}
use Rattle.std.proofs.lemmas.Int.{ints}
use Rattle.sk_base.specs.SoundSketch.{IsSoundRatio}
use Rattle.sk_steps.specs.Leaves.{IsSoundMeasure}
use Rattle.sk_steps.proofs.leaf.frame.Goals as goal

pub length-x2-requires : goal.length-x2-requires
length-x2-requires g c =
    let sound : IsFromTo 1 2000000000 c.in-PointPoint.far.0 = subst IsSoundMeasure c.in-PointPoint.is c.requires in
    omega (arith, ints, sound.0, sound.1)

pub length-y-requires : goal.length-y-requires
length-y-requires g c =
    let sound : IsFromTo 0 1000000000 c.in-PointLine.far.0 = subst IsSoundMeasure c.in-PointLine.is c.requires in
    omega (arith, ints, sound.0, sound.1)

pub part-a-requires-clause-least : goal.part-a-requires-clause-least
part-a-requires-clause-least g c =
    let sound : IsSoundRatio c.in-LineLine.ratio = subst IsSoundMeasure c.in-LineLine.is c.requires in
    let p : ℤ = c.in-LineLine.ratio.p in
    let p_fits : FitsSigned w32 p = omega (arith, ints, sound.1) in
    let square_fits : FitsSigned w64 c.square_of-square.result = record { sfits = c.square_of-square.type_inv } in
    let part_fits : FitsSigned w64 c.by_sign.result = record { sfits = c.by_sign.type_inv } in
    let size : unsigned_abs c.by_sign.result ≡ unsigned_abs p = simp to_z-of_z at c.by_sign.ensures.size in
    let least = c.square_of-square.ensures.p_least in
    simp to_z-of_z (rw size least)

pub part-a-requires-clause-positive : goal.part-a-requires-clause-positive
part-a-requires-clause-positive g c =
    let fits : FitsSigned w64 c.square_of-square.result = record { sfits = c.square_of-square.type_inv } in
    simp to_z-of_z c.square_of-square.ensures.positive

pub part-b-requires-clause-positive : goal.part-b-requires-clause-positive
part-b-requires-clause-positive g c =
    let fits : FitsSigned w64 c.square_of-square.result = record { sfits = c.square_of-square.type_inv } in
    simp to_z-of_z c.square_of-square.ensures.positive

pub part-a-requires-clause-most : goal.part-a-requires-clause-most
part-a-requires-clause-most g c =
    let fits : FitsSigned w64 c.square_of-square.result = record { sfits = c.square_of-square.type_inv } in
    simp to_z-of_z (omega (arith, ints, c.square_of-square.ensures.most))

pub part-b-requires-clause-least : goal.part-b-requires-clause-least
part-b-requires-clause-least g c =
    let sound : IsSoundRatio c.in-LineLine.ratio = subst IsSoundMeasure c.in-LineLine.is c.requires in
    let q : ℤ = c.in-LineLine.ratio.q in
    let q_fits : FitsSigned w32 q = omega (arith, ints, sound.2) in
    let square_fits : FitsSigned w64 c.square_of-square.result = record { sfits = c.square_of-square.type_inv } in
    let part_fits : FitsSigned w64 c.by_sign-in-LineLine.result = record { sfits = c.by_sign-in-LineLine.type_inv } in
    let size : unsigned_abs c.by_sign-in-LineLine.result ≡ unsigned_abs q = simp to_z-of_z at c.by_sign-in-LineLine.ensures.size in
    let least = c.square_of-square.ensures.q_least in
    simp to_z-of_z (rw size least)

pub part-b-requires-clause-most : goal.part-b-requires-clause-most
part-b-requires-clause-most g c =
    let fits : FitsSigned w64 c.square_of-square.result = record { sfits = c.square_of-square.type_inv } in
    simp to_z-of_z (omega (arith, ints, c.square_of-square.ensures.most))
