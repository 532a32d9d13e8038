use Rattle.std.specs.Prelude.{◌≡◌, map, take}
use Rattle.sk_flips.specs.Flipping.{flipped_step}
use Rattle.sk_flips.proofs.flip.flipped_steps.Given as goal

abbrev pub invariant-loop-step : goal.invariant-loop-step
invariant-loop-step l = l.turned ≡ map (flipped_step l.names) (take l.step-index l.steps)
