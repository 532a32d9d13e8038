use Rattle.std.specs.Prelude.{take}
use Rattle.sk_measure.specs.Least.{IsLeast}
use Rattle.sk_measure.specs.Items.{AreMetWith}
use Rattle.sk_measure.proofs.pins.least_with.Given as goal

-- the least number so far
abbrev pub invariant-loop-pin : goal.invariant-loop-pin
invariant-loop-pin l = IsLeast (AreMetWith l.p (take l.pin-index l.pins) l.further) l.least
