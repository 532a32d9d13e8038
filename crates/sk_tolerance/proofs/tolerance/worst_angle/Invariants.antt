use Rattle.std.specs.Prelude.{take, ◌++◌, List}
use Rattle.sk_measure.specs.Items.{Item}
use Rattle.sk_tolerance.specs.Tolerances.{angles}
use Rattle.sk_tolerance.specs.Telling.{IsTold}
use Rattle.sk_tolerance.proofs.tolerance.worst_angle.Given as goal

-- the worst so far
abbrev pub invariant-loop-e : goal.invariant-loop-e
invariant-loop-e l = (items : List Item) → IsTold l.p items l.fn.before → IsTold l.p (items ++ angles (take l.e-index l.edges)) l.worst
