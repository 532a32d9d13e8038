use Rattle.sk_plan.proofs.Stepping.{IsAt}
use Rattle.sk_plan.proofs.making.steps_of.Given as goal

abbrev pub invariant-loop-merging : goal.invariant-loop-merging
invariant-loop-merging l = IsAt l.sketch l.graph l.taken l.merging-index l.family l.steps
