use Rattle.std.specs.Prelude.{take}
use Rattle.sk_tolerance.specs.Tolerances.{normals}
use Rattle.sk_verify.specs.Failing.{AllHoldAsClaimed}
use Rattle.sk_verify.proofs.holding.line_off.Given as goal

-- the normals so far hold
abbrev pub invariant-loop-node : goal.invariant-loop-node
invariant-loop-node l = AllHoldAsClaimed l.claim (normals (take l.node-index l.node-items))
