use Rattle.std.proofs.Common.{rules, FitsSigned, arith, to_z-of_z}
use Rattle.std.specs.Int.{w128}
use Rattle.std.proofs.lemmas.Grind.{common_steps}
use Rattle.sk_dxf.proofs.entities.put_point.Goals as goal

pub returns : goal.returns
returns c =
    let x : FitsSigned w128 c.args.place.x = search rules in
    let y : FitsSigned w128 c.args.place.y = search rules in
    grind (arith, common_steps, to_z-of_z)
