use Rattle.std.proofs.Common.{◌≡◌, ℤ, subst, FitsSigned, arith, to_z-of_z}
use Rattle.std.proofs.lemmas.Int.{ints}
use Rattle.std.specs.Int.{w64, w128}
use Rattle.sk_base.specs.declared.placed.At.{At}
use Rattle.sk_base.specs.declared.placed.At.TheVariants.{Point}
use Rattle.sk_base.specs.Bounds.{IsWithin}
use Rattle.sk_base.specs.Places.{IsBounded}
use Rattle.sk_dxf.proofs.course.along.Goals as goal

bounded_point : (at : At) (x y : ℤ) → at ≡ Point x y → IsBounded at → IsWithin 1152921504606846976 x × IsWithin 1152921504606846976 y
bounded_point at x y is bounded = subst (λ p. IsBounded p) is bounded

pub difference_of_parts-requires-clause-x : goal.difference_of_parts-requires-clause-x
difference_of_parts-requires-clause-x c =
    let bounds = bounded_point c.args.at c.in-Point.x c.in-Point.y c.in-Point.is c.requires.at in
    omega (arith, ints, bounds.0.0, bounds.0.1)

pub difference_of_parts-requires-clause-y : goal.difference_of_parts-requires-clause-y
difference_of_parts-requires-clause-y c =
    let bounds = bounded_point c.args.at c.in-Point.x c.in-Point.y c.in-Point.is c.requires.at in
    omega (arith, ints, bounds.1.0, bounds.1.1)

pub returns-in-Point-clause-within : goal.returns-in-Point-clause-within
returns-in-Point-clause-within c =
    let bounds = bounded_point c.args.at c.in-Point.x c.in-Point.y c.in-Point.is c.requires.at in
    let x : FitsSigned w64 c.in-Point.x = omega (arith, ints) in
    let y : FitsSigned w64 c.in-Point.y = omega (arith, ints) in
    let result : FitsSigned w128 c.difference_of_parts.result = record { sfits = c.difference_of_parts.type_inv } in
    let from_x : FitsSigned w128 c.from.result = record { sfits = c.from.type_inv } in
    let from_y : FitsSigned w128 c.from-in-Point.result = record { sfits = c.from-in-Point.type_inv } in
    let within = c.difference_of_parts.ensures.within 1152921504606846976 in
    simp to_z-of_z (within (simp to_z-of_z (rw c.from.ensures (simp to_z-of_z bounds.0))) (simp to_z-of_z (rw c.from-in-Point.ensures (simp to_z-of_z bounds.1))))
