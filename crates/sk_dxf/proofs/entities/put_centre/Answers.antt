use Rattle.std.proofs.Common.{rules, ◌≡◌, pos, ◌*ℤ◌, FitsSigned, arith, to_z-of_z}
use Rattle.std.specs.Int.{w64, w128}
use Rattle.std.proofs.lemmas.Int.{ints}
use Rattle.sk_dxf.proofs.entities.put_centre.Goals as goal

pub returns-in-Circle : goal.returns-in-Circle
returns-in-Circle c =
    let narrow : FitsSigned w64 c.in-Circle.r.0 = search rules in
    let r : FitsSigned w128 c.in-Circle.r.0 = omega (arith, ints) in
    let nanometres : FitsSigned w128 (pos 1000 *ℤ c.in-Circle.r.0) = omega (arith, ints) in
    let same : c.from.result ≡ c.in-Circle.r.0 = simp to_z-of_z at c.from.ensures in
    rw c.in-Circle.is (simp to_z-of_z at (rw same at c.put_circle.ensures))
