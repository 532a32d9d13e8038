use Rattle.std.specs.Prelude.{take}
use Rattle.sk_tolerance.specs.Tolerances.{AllHold, normals}
use Rattle.sk_tolerance.proofs.beyond.line_beyond.Given as goal

-- the normals so far hold within the limit
abbrev pub invariant-loop-node : goal.invariant-loop-node
invariant-loop-node l = AllHold l.p (normals (take l.node-index l.nodes)) l.limit
