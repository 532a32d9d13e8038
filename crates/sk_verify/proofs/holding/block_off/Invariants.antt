use Rattle.std.specs.Prelude.{take}
use Rattle.sk_tolerance.specs.Tolerances.{rigid}
use Rattle.sk_verify.specs.Failing.{AllHoldAsClaimed}
use Rattle.sk_verify.proofs.holding.block_off.Given as goal

-- the blocks so far hold
abbrev pub invariant-loop-b : goal.invariant-loop-b
invariant-loop-b l = AllHoldAsClaimed l.claim (rigid (take l.b-index l.b-items))
