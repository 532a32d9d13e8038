use Rattle.sk_plan.proofs.Starts.{starts_are}
use Rattle.sk_session.proofs.law.starts_as_named.Goals as goal

pub returns : goal.returns
returns c = starts_are
