use Rattle.std.specs.Prelude.{take}
use Rattle.sk_tolerance.specs.Tolerances.{rigid}
use Rattle.sk_tolerance.specs.Telling.{IsTold}
use Rattle.sk_tolerance.proofs.tolerance.worst_block.Given as goal

-- the worst so far
abbrev pub invariant-loop-b : goal.invariant-loop-b
invariant-loop-b l = IsTold l.p (rigid (take l.b-index l.blocks)) l.worst
