use Rattle.std.proofs.Common.{true, false, sym, ◌∙◌, arith}
use Rattle.sk_drawn.proofs.DrawnRules.{no_size}
use Rattle.sk_drawn.proofs.values.drawn_size.Goals as goal

pub returns-else-is_line-2-clause-none : goal.returns-else-is_line-2-clause-none
returns-else-is_line-2-clause-none c =
    no_size c.args.a c.args.b c.drawn_apart.result true false c.length_within.result 0 c.drawn_apart.ensures
    (sym c.is_line.ensures.computed ∙ c.if-is_line.true) (sym c.is_line-then-is_line.ensures.computed ∙ c.if-is_line-2.false)
    (λ n size. (size.0, omega arith, size.1)) c.length_within.ensures.none

pub returns-then-is_line-3-clause-none : goal.returns-then-is_line-3-clause-none
returns-then-is_line-3-clause-none c =
    no_size c.args.a c.args.b c.drawn_apart-then-is_line-3.result false true c.length_within-then-is_line-3.result 0 c.drawn_apart-then-is_line-3.ensures
    (sym c.is_line.ensures.computed ∙ c.if-is_line.false) (sym c.is_line-else-is_line.ensures.computed ∙ c.if-is_line-3.true)
    (λ n size. (size.0, omega arith, size.1)) c.length_within-then-is_line-3.ensures.none

pub returns-else-is_line-3-clause-none : goal.returns-else-is_line-3-clause-none
returns-else-is_line-3-clause-none c =
    no_size c.args.a c.args.b c.drawn_apart-else-is_line-3.result false false c.length_within-else-is_line-3.result 1 c.drawn_apart-else-is_line-3.ensures
    (sym c.is_line.ensures.computed ∙ c.if-is_line.false) (sym c.is_line-else-is_line.ensures.computed ∙ c.if-is_line-3.false)
    (λ n size. (size.0, size.1, size.2)) c.length_within-else-is_line-3.ensures.none
