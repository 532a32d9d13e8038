use Rattle.std.proofs.Common.{◌≡◌, take}
use Rattle.std.specs.List.{filter_map}
use Rattle.sk_graph.specs.SketchGraph.{block_of}
use Rattle.sk_graph.proofs.reduction.blocks.Given as goal

abbrev pub invariant-loop-constraint : goal.invariant-loop-constraint
invariant-loop-constraint l = l.blocks ≡ filter_map block_of (take l.constraint-index l.constraints)
