use Rattle.std.specs.Prelude.{take}
use Rattle.sk_tolerance.specs.Tolerances.{normals}
use Rattle.sk_tolerance.specs.Telling.{IsTold}
use Rattle.sk_tolerance.proofs.tolerance.worst_normal.Given as goal

-- the worst so far
abbrev pub invariant-loop-node : goal.invariant-loop-node
invariant-loop-node l = IsTold l.p (normals (take l.node-index l.nodes)) l.worst
