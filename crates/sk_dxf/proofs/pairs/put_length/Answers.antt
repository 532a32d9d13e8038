use Rattle.std.proofs.Common.{rules, FitsSigned, arith, to_z-of_z}
use Rattle.std.specs.Int.{w128}
use Rattle.std.proofs.lemmas.Grind.{common_steps}
use Rattle.sk_dxf.specs.Entities.{length_pair}
use Rattle.sk_dxf.proofs.pairs.put_length.Goals as goal

pub returns : goal.returns
unfolding length_pair
returns c =
    let nm : FitsSigned w128 c.args.nm = search rules in
    grind (arith, common_steps, to_z-of_z)
