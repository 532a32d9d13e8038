use Rattle.std.proofs.Common.{inr, arith}
use Rattle.sk_drawn.proofs.DrawnRules.{no_length, not_on}
use Rattle.sk_drawn.proofs.values.beside.Goals as goal

pub returns-in_default-2-clause-none : goal.returns-in_default-2-clause-none
returns-in_default-2-clause-none c =
    let far = c.if-len-le-MOST.false in (
      no_length c.args.a c.args.b c.drawn_apart.result c.drawn_apart.ensures (inr (omega (arith, far))),
      not_on c.args.a c.args.b c.drawn_apart.result c.drawn_apart.ensures (omega (arith, far)),
    )
