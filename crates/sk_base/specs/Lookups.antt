-- The constraints of a graph by their numbers.
use Rattle.std.specs.Prelude.{◌==◌, ℕ, Option, find}
use Rattle.sk_base.specs.declared.graph.Edge.{Edge}
use Rattle.sk_base.specs.declared.graph.Block.{Block}
use Rattle.sk_base.specs.declared.graph.Graph.{Graph}

-- the constraint between two elements, and the block, of that number
abbrev pub edge_numbered : Graph → ℕ → Option Edge
edge_numbered g k = find (λ (e : Edge). e.id.0 == k) g.edges

abbrev pub block_numbered : Graph → ℕ → Option Block
block_numbered g k = find (λ (b : Block). b.id.0 == k) g.blocks
