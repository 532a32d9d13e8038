use Rattle.std.proofs.Common.{rules, FitsSigned, arith, to_z-of_z}
use Rattle.std.specs.Int.{w128}
use Rattle.std.proofs.lemmas.Grind.{common_steps}
use Rattle.sk_dxf.proofs.entities.put_circle.Goals as goal

pub returns : goal.returns
returns c =
    let x : FitsSigned w128 c.args.centre.x = search rules in
    let y : FitsSigned w128 c.args.centre.y = search rules in
    let r : FitsSigned w128 c.args.r = search rules in
    grind (arith, common_steps, to_z-of_z)
