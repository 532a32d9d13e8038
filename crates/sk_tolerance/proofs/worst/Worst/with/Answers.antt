use Rattle.sk_tolerance.proofs.Worsts.{told_then, told_else}
use Rattle.sk_tolerance.proofs.worst.Worst.with.Goals as goal

pub returns-then-is_below : goal.returns-then-is_below
returns-then-is_below c = λ p items item told own named.
    told_then p items item c.args.least own c.args.self.least c.args.self.at (rw (← c.is_below.ensures) c.if-is_below.true) told c.args.at named

pub returns-else-is_below : goal.returns-else-is_below
returns-else-is_below c = λ p items item told own named.
    told_else p items item c.args.least own c.args.self.least c.args.self.at (rw (← c.is_below.ensures) c.if-is_below.false) told
