use Rattle.sk_family.proofs.Ordering.{merge_of_three}
use Rattle.sk_family.proofs.merge.Merge.three.Goals as goal

pub returns-clause-some : goal.returns-clause-some
returns-clause-some c =
    merge_of_three c.args.x c.args.y c.args.z c.in_ok-high.high c.in_ok-high.low c.in_ok-first.first c.in_ok-first.other c.in_ok-second.second c.in_ok-second.third
    (record { falls = c.in_ok-high.ensures.falls; same = c.in_ok-high.ensures.same })
    (record { falls = c.in_ok-first.ensures.falls; same = c.in_ok-first.ensures.same })
    (record { falls = c.in_ok-second.ensures.falls; same = c.in_ok-second.ensures.same })
