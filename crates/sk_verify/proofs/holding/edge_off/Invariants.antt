use Rattle.std.specs.Prelude.{take}
use Rattle.sk_tolerance.specs.Tolerances.{between}
use Rattle.sk_verify.specs.Failing.{AllHoldAsClaimed}
use Rattle.sk_verify.proofs.holding.edge_off.Given as goal

-- the constraints so far hold
abbrev pub invariant-loop-e : goal.invariant-loop-e
invariant-loop-e l = AllHoldAsClaimed l.claim (between (take l.e-index l.e-items))
