use Rattle.std.proofs.Common.{rules, FitsSigned, arith, to_z-of_z}
use Rattle.std.specs.Int.{w128}
use Rattle.std.proofs.lemmas.Grind.{common_steps}
use Rattle.sk_dxf.proofs.entities.put_line.Goals as goal

pub returns : goal.returns
returns c =
    let x1 : FitsSigned w128 c.args.from.x = search rules in
    let y1 : FitsSigned w128 c.args.from.y = search rules in
    let x2 : FitsSigned w128 c.args.to.x = search rules in
    let y2 : FitsSigned w128 c.args.to.y = search rules in
    grind (arith, common_steps, to_z-of_z)
