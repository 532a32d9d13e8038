use Rattle.std.proofs.Common.{take}
use Rattle.sk_verdict.specs.Building.{AddsLone}
use Rattle.sk_verdict.proofs.judgement.add_lone.Given as goal

-- the parts of the lone ones of the nodes so far
abbrev pub invariant-loop-node : goal.invariant-loop-node
invariant-loop-node l = AddsLone l.graph (take l.node-index l.node-items) l.fn.parts l.parts
