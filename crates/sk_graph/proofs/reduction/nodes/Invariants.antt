use Rattle.std.proofs.Common.{◌≡◌, take}
use Rattle.std.specs.Prelude.{map}
use Rattle.sk_graph.specs.SketchGraph.{node_of}
use Rattle.sk_graph.proofs.reduction.nodes.Given as goal

abbrev pub invariant-loop-element : goal.invariant-loop-element
invariant-loop-element l = l.nodes ≡ map node_of (take l.element-index l.elements)
