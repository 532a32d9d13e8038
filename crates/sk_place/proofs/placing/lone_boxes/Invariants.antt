use Rattle.std.proofs.Common.{◌≡◌, take, map}
use Rattle.sk_base.specs.declared.Node.{Node}
use Rattle.sk_place.specs.Placing.{lone_box}
use Rattle.sk_place.proofs.placing.lone_boxes.Given as goal

abbrev pub invariant-loop-node : goal.invariant-loop-node
invariant-loop-node g l = l.boxes ≡ map (λ (n : Node). record { elem = n.elem; at = lone_box g.G.Grid.BITS n.kind }) (take l.node-index l.node-items)
