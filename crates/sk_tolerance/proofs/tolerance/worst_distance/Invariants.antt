use Rattle.std.specs.Prelude.{take}
use Rattle.sk_tolerance.specs.Tolerances.{distances}
use Rattle.sk_tolerance.specs.Telling.{IsTold}
use Rattle.sk_tolerance.proofs.tolerance.worst_distance.Given as goal

-- the worst so far
abbrev pub invariant-loop-e : goal.invariant-loop-e
invariant-loop-e l = IsTold l.p (distances (take l.e-index l.edges)) l.worst
