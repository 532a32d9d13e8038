use Rattle.std.specs.Prelude.{Contains, take}
use Rattle.sk_base.specs.declared.Node.{Node}
use Rattle.sk_verify.proofs.Fronts.{AllOf}
use Rattle.sk_verify.proofs.whole.has_nodes.Given as goal

-- the nodes so far are elements of the cluster
abbrev pub invariant-loop-node : goal.invariant-loop-node
invariant-loop-node l = AllOf (λ (n : Node). Contains l.cluster.elements n.elem) (take l.node-index l.node-items)
