use Rattle.sk_drawn.proofs.Ratios.{ratio_drawn}
use Rattle.sk_drawn.proofs.values.turned.Goals as goal

pub returns-clause-drawn : goal.returns-clause-drawn
returns-clause-drawn c =
    ratio_drawn c.args.s.now c.args.l c.args.m c.args.a c.args.b c.in_ok-ratio.ratio c.requires.a_is c.requires.b_is c.in_ok-ratio.ensures.drawn
