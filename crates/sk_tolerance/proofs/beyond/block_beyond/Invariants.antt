use Rattle.std.specs.Prelude.{take}
use Rattle.sk_tolerance.specs.Tolerances.{rigid, AllHold}
use Rattle.sk_tolerance.proofs.beyond.block_beyond.Given as goal

-- the blocks so far hold within the limit
abbrev pub invariant-loop-b : goal.invariant-loop-b
invariant-loop-b l = AllHold l.p (rigid (take l.b-index l.blocks)) l.limit
