use Rattle.sk_tolerance.proofs.Merging.{told_first, told_second}
use Rattle.sk_tolerance.proofs.worst.Worst.or.Goals as goal

pub returns-then-is_worse : goal.returns-then-is_worse
returns-then-is_worse c = λ p xs ys all merged left right.
    told_first p xs ys all merged c.args.self.least c.args.self.at c.args.other.least c.args.other.at (rw (← c.is_worse.ensures) c.if-is_worse.true) left right

pub returns-else-is_worse : goal.returns-else-is_worse
returns-else-is_worse c = λ p xs ys all merged left right.
    told_second p xs ys all merged c.args.self.least c.args.self.at c.args.other.least c.args.other.at (rw (← c.is_worse.ensures) c.if-is_worse.false) left right
