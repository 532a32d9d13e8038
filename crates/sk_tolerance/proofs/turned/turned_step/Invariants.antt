use Rattle.std.specs.Prelude.{take}
use Rattle.sk_tolerance.specs.Turns.{AllAsDrawn, signs_of_steps}
use Rattle.sk_tolerance.proofs.turned.turned_step.Given as goal

-- the choices so far are as drawn
abbrev pub invariant-loop-step : goal.invariant-loop-step
invariant-loop-step l = AllAsDrawn (signs_of_steps l.wanted l.s l.p (take l.step-index l.steps))
