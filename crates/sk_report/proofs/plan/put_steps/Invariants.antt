use Rattle.std.proofs.Common.{◌≡◌, ◌++◌, take}
use Rattle.std.specs.List.{flat_map}
use Rattle.sk_report.specs.PlanReport.{step_line}
use Rattle.sk_report.proofs.plan.put_steps.Given as goal

abbrev pub invariant-loop-step : goal.invariant-loop-step
invariant-loop-step l = l.text ≡ l.fn.text ++ flat_map (step_line l.s) (take l.step-index l.steps)
