use Rattle.std.proofs.Common.{subst}
use Rattle.sk_family.specs.declared.Merge.{Merge}
use Rattle.sk_close_by_angles.specs.WideChoices.{CanTakeByTie}
use Rattle.sk_close_by_angles.proofs.WideRuns.{tie_replaced}
use Rattle.sk_close_by_angles.proofs.closing.take_by_tie.Goals as goal

pub replace-requires-clause-from : goal.replace-requires-clause-from
replace-requires-clause-from c =
    let (g, can) = c.requires.can in
    tie_replaced g c.args.family.now c.in-Two.x c.in-Two.y (subst (λ (m : Merge). CanTakeByTie g c.args.family.now m) c.in-Two.is can)
