-- What the graph of a sketch keeps to.
use Rattle.std.specs.Prelude.{◌≢◌, ◌+◌, ◌<◌, ◌≤◌, length, All, AllPairs, Contains}
use Rattle.sk_base.specs.declared.numbered.Elem.{Elem}
use Rattle.sk_base.specs.declared.measure.Kind.{Kind}
use Rattle.sk_base.specs.declared.measure.Kind.TheVariants.{Point, Line}
use Rattle.sk_base.specs.declared.measure.Measure.{Measure}
use Rattle.sk_base.specs.declared.measure.Measure.TheVariants.{PointPoint, PointLine, LineLine}
use Rattle.sk_base.specs.declared.graph.Node.{Node}
use Rattle.sk_base.specs.declared.graph.Edge.{Edge}
use Rattle.sk_base.specs.declared.graph.Block.{Block}
use Rattle.sk_base.specs.declared.graph.Graph.{Graph}
use Rattle.sk_base.specs.declared.sketch.Pin.{Pin}
use Rattle.sk_base.specs.Bounds.{IsFromTo}
use Rattle.sk_base.specs.Pins.{AreSoundPins}
use Rattle.sk_base.specs.SoundSketch.{IsSoundRatio}

-- the elements' numbers rise along the list
abbrev pub HasRisingNodes : Graph → Type 0
HasRisingNodes g = AllPairs (λ (x y : Node). x.elem.0 < y.elem.0) g.nodes

-- the constraints' numbers rise along the list
abbrev pub HasRisingEdges : Graph → Type 0
HasRisingEdges g = AllPairs (λ (x y : Edge). x.id.0 < y.id.0) g.edges

-- the blocks' numbers rise along the list
abbrev pub HasRisingBlocks : Graph → Type 0
HasRisingBlocks g = AllPairs (λ (x y : Block). x.id.0 < y.id.0) g.blocks

-- no number is that of a block and of a constraint between two elements
abbrev pub HasBlocksApart : Graph → Type 0
HasBlocksApart g = (e : Edge) (b : Block) → Contains g.edges e → Contains g.blocks b → e.id ≢ b.id

-- each constraint has two different ends
abbrev pub HasTwoEnds : Graph → Type 0
HasTwoEnds g = (e : Edge) → Contains g.edges e → e.u ≢ e.v

-- the element is a node of that kind
abbrev pub HasNode : Graph → Elem → Kind → Type 0
HasNode g e kind = Contains g.nodes (record { elem = e; kind = kind })

-- the measure fits the kinds of the ends, and is within its limits
abbrev pub Measures : Graph → Elem → Elem → Measure → Type 0
Measures g u v (PointPoint len) = HasNode g u Point × HasNode g v Point × IsFromTo 1 2000000000 len.0
Measures g u v (PointLine len side) = HasNode g u Point × HasNode g v Line × IsFromTo 0 1000000000 len.0
Measures g u v (LineLine ratio sense) = HasNode g u Line × HasNode g v Line × IsSoundRatio ratio

-- the block's pins are sound, and at points
pub record IsBlockOf (g : Graph) (b : Block) : Type 0 where
  pub pins : AreSoundPins b.pins
  pub at_points : All (λ (pin : Pin). HasNode g pin.elem Point) b.pins

-- numbers rise along all lists, no constraint stands twice, each that isn't a block measures two
-- different nodes, and each block has sound pins at points
pub record IsSoundGraph (g : Graph) : Type 0 where
  pub nodes_rise : HasRisingNodes g
  pub edges_rise : HasRisingEdges g
  pub blocks_rise : HasRisingBlocks g
  pub blocks_apart : HasBlocksApart g
  pub few_nodes : length g.nodes ≤ 2000
  pub few_constraints : length g.edges + length g.blocks ≤ 4000
  pub two_ends : HasTwoEnds g
  pub edges_measure : (e : Edge) → Contains g.edges e → Measures g e.u e.v e.measure
  pub blocks_sound : (b : Block) → Contains g.blocks b → IsBlockOf g b
