use Rattle.std.proofs.Common.{length}
use Rattle.sk_excess.proofs.thinning.+left_of.Given as goal

abbrev pub decreases-left_of : goal.decreases-left_of
decreases-left_of l = length l.aside.now
