use Rattle.std.specs.Prelude.{take}
use Rattle.sk_measure.specs.Placing.{AreSpotsOf}
use Rattle.sk_test_runs.proofs.tolerances.placed.Given as goal

-- the spots so far are those of the nodes so far
abbrev pub invariant-loop-i : goal.invariant-loop-i
invariant-loop-i g l = AreSpotsOf (take l.i l.nodes) l.spots
