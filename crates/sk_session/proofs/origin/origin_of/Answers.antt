use Rattle.std.proofs.Common.{sym}
use Rattle.sk_plan.proofs.Starts.{edge_starts_so}
use Rattle.sk_session.proofs.origin.origin_of.Goals as goal

pub returns-in-Some : goal.returns-in-Some
returns-in-Some c = edge_starts_so c.args.sketch.now c.args.constraint.now c.in-Some.edge (sym c.in-Some.ensures.edge)
