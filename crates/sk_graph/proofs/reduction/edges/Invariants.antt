use Rattle.std.proofs.Common.{◌≡◌, take}
use Rattle.std.specs.List.{filter_map}
use Rattle.sk_graph.specs.SketchGraph.{edge_of}
use Rattle.sk_graph.proofs.reduction.edges.Given as goal

abbrev pub invariant-loop-constraint : goal.invariant-loop-constraint
invariant-loop-constraint l = l.edges ≡ filter_map (edge_of l.s) (take l.constraint-index l.constraints)
