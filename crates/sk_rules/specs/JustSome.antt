-- A graph with some of its constraints.
use Rattle.std.specs.Prelude.{Bool, filter}
use Rattle.sk_base.specs.declared.ConId.{ConId}
use Rattle.sk_base.specs.declared.Edge.{Edge}
use Rattle.sk_base.specs.declared.Block.{Block}
use Rattle.sk_base.specs.declared.Graph.{Graph}

-- the graph with just the constraints whose numbers pass, blocks among them
abbrev pub with_just : (ConId → Bool) → Graph → Graph
with_just passes g = record {
  nodes = g.nodes;
  edges = filter (λ (e : Edge). passes e.id) g.edges;
  blocks = filter (λ (b : Block). passes b.id) g.blocks;
}
