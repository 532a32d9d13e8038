use Rattle.std.proofs.Common.{ap}
use Rattle.std.specs.Prelude.{not}
use Rattle.sk_why.proofs.branches.is_new.Goals as goal

pub returns : goal.returns
returns c = ap not c.is_among.ensures.computed
