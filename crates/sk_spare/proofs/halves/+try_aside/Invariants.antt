use Rattle.std.proofs.Common.{length}
use Rattle.sk_spare.proofs.halves.+try_aside.Given as goal

abbrev pub decreases-try_aside : goal.decreases-try_aside
decreases-try_aside l = length l.aside.now
