use Rattle.sk_place.specs.Running.{IsAfter}
use Rattle.sk_place.proofs.placing.run.Given as goal

abbrev pub invariant-loop-step : goal.invariant-loop-step
invariant-loop-step g l = IsAfter l.fn.placing g.G.Grid.BITS l.fn.g l.fn.plan l.step-index l.live
