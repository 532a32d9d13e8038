use Rattle.std.proofs.Common.{FitsSigned, to_z-of_z}
use Rattle.std.specs.Int.{w128}
use Rattle.sk_drawn.proofs.Drawing.{cross_few}
use Rattle.sk_drawn.proofs.grade.across.Goals as goal

pub returns-clause-few : goal.returns-clause-few
returns-clause-few c =
    let fits : FitsSigned w128 c.cross.result = record { sfits = c.cross.type_inv } in
    simp to_z-of_z (rw c.cross.ensures (cross_few c.args.one c.args.other c.requires.one c.requires.other))
