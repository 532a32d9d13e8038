use Rattle.std.proofs.Common.{◌+◌, ◌-◌, vec_len}
use Rattle.sk_rigid.proofs.groups.Groups.set.Given as goal

abbrev pub decreases-loop-self : goal.decreases-loop-self
decreases-loop-self l = l.at + 1 - vec_len l.self.links
