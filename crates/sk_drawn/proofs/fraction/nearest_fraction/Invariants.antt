use Rattle.sk_drawn.proofs.Fractions.{IsBest}
use Rattle.sk_drawn.proofs.fraction.nearest_fraction.Given as goal

abbrev pub invariant-loop-y : goal.invariant-loop-y
invariant-loop-y l = IsBest l.a l.b l.y l.best
