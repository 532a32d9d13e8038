use Rattle.std.specs.Prelude.{take}
use Rattle.sk_tolerance.specs.Tolerances.{between, AllHold}
use Rattle.sk_tolerance.proofs.beyond.edge_beyond.Given as goal

-- the constraints so far hold within the limit
abbrev pub invariant-loop-e : goal.invariant-loop-e
invariant-loop-e l = AllHold l.p (between (take l.e-index l.edges)) l.limit
