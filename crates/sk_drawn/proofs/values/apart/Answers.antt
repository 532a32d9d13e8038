use Rattle.std.proofs.Common.{inl, inr, arith}
use Rattle.sk_drawn.proofs.DrawnRules.{no_length}
use Rattle.sk_drawn.proofs.values.apart.Goals as goal

pub returns-in-0-clause-none : goal.returns-in-0-clause-none
returns-in-0-clause-none c = no_length c.args.a c.args.b c.drawn_apart.result c.drawn_apart.ensures (inl c.in-0.is)

pub returns-in_default-2-clause-none : goal.returns-in_default-2-clause-none
returns-in_default-2-clause-none c = (let far = c.if-len-le-MOST.false in no_length c.args.a c.args.b c.drawn_apart.result c.drawn_apart.ensures (inr (omega (arith, far))))
