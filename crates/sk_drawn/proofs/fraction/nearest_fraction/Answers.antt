use Rattle.std.proofs.Common.{◌+◌, rules, subst, sym}
use Rattle.sk_drawn.specs.declared.fraction.Fraction.{Fraction}
use Rattle.sk_drawn.proofs.Fractions.{IsBest, next_best}
use Rattle.sk_drawn.proofs.fraction.nearest_fraction.Goals as goal

pub loop-y-preserved : goal.loop-y-preserved
loop-y-preserved c =
    subst (λ (f : Fraction). IsBest c.args.a c.args.b (c.loop-y.y + 1) f) (sym c.nearer-best.ensures)
    (next_best c.args.a c.args.b c.loop-y.y c.loop-y.best c.fraction_over.result c.loop-y.invariant
    (record { x = search rules; off = search rules; few = search rules; nearest = search rules })
    (search rules))
