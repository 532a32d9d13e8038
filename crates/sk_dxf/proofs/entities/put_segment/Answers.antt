use Rattle.std.proofs.Common.{rules, FitsSigned, arith, to_z-of_z}
use Rattle.std.specs.Int.{w128}
use Rattle.std.proofs.lemmas.Grind.{common_steps}
use Rattle.sk_dxf.proofs.entities.put_segment.Goals as goal

pub returns : goal.returns
returns c =
    let first : FitsSigned w128 c.args.segment.first = search rules in
    let last : FitsSigned w128 c.args.segment.last = search rules in
    grind (arith, common_steps, to_z-of_z)
