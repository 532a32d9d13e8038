use Rattle.sk_verify.specs.Stepping.{HasRoom}
use Rattle.sk_verify.proofs.Leading.{IsAt}
use Rattle.sk_verify.proofs.stepping.family_after.Given as goal

-- the steps so far are right, and lead to the family
abbrev pub invariant-loop-step : goal.invariant-loop-step
invariant-loop-step l = record { at : IsAt l.s l.g l.steps l.step-index l.family; room : HasRoom l.family }
