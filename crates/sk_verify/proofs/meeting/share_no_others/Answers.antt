use Rattle.sk_verify.proofs.Tests.{both_then}
use Rattle.sk_verify.proofs.meeting.share_no_others.Goals as goal

pub returns-then-shares_no_other : goal.returns-then-shares_no_other
returns-then-shares_no_other c = both_then _ (c.shares_no_other.ensures.0 c.if-shares_no_other.true) c.share_neither.ensures
