use Rattle.std.proofs.Common.{length}
use Rattle.sk_why.proofs.leaving.+gone_of.Given as goal

abbrev pub decreases-gone_of : goal.decreases-gone_of
decreases-gone_of l = length l.aside.now
