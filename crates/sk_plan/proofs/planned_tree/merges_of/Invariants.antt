use Rattle.std.proofs.Common.{◌≡◌, take}
use Rattle.std.specs.Prelude.{map}
use Rattle.sk_tree.specs.LegalPlan.{taken_told}
use Rattle.sk_plan.proofs.planned_tree.merges_of.Given as goal

abbrev pub invariant-loop-step : goal.invariant-loop-step
invariant-loop-step l = l.taken ≡ map taken_told (take l.step-index l.steps)
