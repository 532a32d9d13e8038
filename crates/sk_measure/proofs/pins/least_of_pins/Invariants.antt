use Rattle.std.specs.Prelude.{take}
use Rattle.sk_measure.specs.Least.{IsLeast}
use Rattle.sk_measure.specs.Items.{ArePinsMet}
use Rattle.sk_measure.proofs.pins.least_of_pins.Given as goal

-- the least number so far
abbrev pub invariant-loop-i : goal.invariant-loop-i
invariant-loop-i l = IsLeast (ArePinsMet l.p (take l.i l.pins)) l.least
