-- The graph that is kept beside a sketch.
use Rattle.std.specs.Prelude.{◌≡◌}
use Rattle.sk_base.specs.declared.Graph.{Graph}
use Rattle.sk_base.specs.declared.Sketch.{Sketch}
use Rattle.sk_base.specs.SoundGraph.{IsSoundGraph}
use Rattle.sk_graph.specs.SketchGraph.{graph_of}

-- the graph is the sketch's
pub record IsItsGraph (s : Sketch) (g : Graph) : Type 0 where
  pub graph : g ≡ graph_of s
  pub sound : IsSoundGraph g
