use Rattle.std.proofs.Common.{◌+◌, ◌-◌, length}
use Rattle.sk_triangles.proofs.ranks.count_one.Given as goal

abbrev pub decreases-loop-counts : goal.decreases-loop-counts
decreases-loop-counts l = l.at + 1 - length l.counts.items
