-- What the places of the ends of a constraint are like.
use Rattle.std.proofs.Common.{pos, [], get_or}
use Rattle.std.specs.Prelude.{Contains}
use Rattle.sk_base.specs.declared.Elem.{Elem}
use Rattle.sk_base.specs.declared.Kind.{Kind}
use Rattle.sk_base.specs.declared.Kind.TheVariants as kinds
use Rattle.sk_base.specs.declared.Node.{Node}
use Rattle.sk_base.specs.declared.Edge.{Edge}
use Rattle.sk_base.specs.declared.Block.{Block}
use Rattle.sk_base.specs.declared.Pin.{Pin}
use Rattle.sk_base.specs.declared.Measure.{Measure}
use Rattle.sk_base.specs.declared.Measure.TheVariants.{PointPoint, PointLine, LineLine}
use Rattle.sk_base.specs.declared.Graph.{Graph}
use Rattle.sk_base.specs.declared.Placed.{Placed}
use Rattle.sk_base.specs.SoundGraph.{IsSoundGraph, HasNode, Measures}
use Rattle.sk_measure.specs.Holding.{FitsKinds}
use Rattle.sk_measure.specs.Placing.{lies, IsPlacedAs, EndsArePlaced, IsModerate, IsMeasurable, AreMeasurable, PlacesExactly}

module _ (p : Placed) (u v : Elem) where
  pub first_end : (m : Measure) → EndsArePlaced p u v m → (kind : Kind) × IsPlacedAs p u kind
  first_end (PointPoint len) ends = (_, ends.0)
  first_end (PointLine len side) ends = (_, ends.0)
  first_end (LineLine ratio sense) ends = (_, ends.0)

  pub second_end : (m : Measure) → EndsArePlaced p u v m → (kind : Kind) × IsPlacedAs p v kind
  second_end (PointPoint len) ends = (_, ends.1)
  second_end (PointLine len side) ends = (_, ends.1)
  second_end (LineLine ratio sense) ends = (_, ends.1)

  pub ends_fit : (m : Measure) → EndsArePlaced p u v m → FitsKinds m (lies p u) (lies p v)
  ends_fit (PointPoint len) ends = (ends.0.has_kind, ends.1.has_kind)
  ends_fit (PointLine len side) ends = (ends.0.has_kind, ends.1.has_kind)
  ends_fit (LineLine ratio sense) ends = (ends.0.has_kind, ends.1.has_kind)

-- the numbers of a constraint of a sound graph are within the limits
pub moderate_of : (g : Graph) (u v : Elem) (m : Measure) → Measures g u v m → IsModerate m
moderate_of g u v (PointPoint len) h = h.2
moderate_of g u v (PointLine len side) h = h.2
moderate_of g u v (LineLine ratio sense) h = h.2

module _ (g : Graph) (p : Placed) (sound : IsSoundGraph g) (exactly : PlacesExactly g p) where
  placed_node : (e : Elem) (kind : Kind) → HasNode g e kind → IsPlacedAs p e kind
  placed_node e kind h = exactly.nodes (record { elem = e; kind = kind }) h

  ends_of : (u v : Elem) (m : Measure) → Measures g u v m → EndsArePlaced p u v m
  ends_of u v (PointPoint len) h = (placed_node u kinds.Point h.0, placed_node v kinds.Point h.1)
  ends_of u v (PointLine len side) h = (placed_node u kinds.Point h.0, placed_node v kinds.Line h.1)
  ends_of u v (LineLine ratio sense) h = (placed_node u kinds.Line h.0, placed_node v kinds.Line h.1)

  -- each constraint of the graph can be measured where its nodes are placed
  pub measurable : (e : Edge) → Contains g.edges e → IsMeasurable p e
  measurable e h =
      let measures = sound.edges_measure e h in
      record { moderate = moderate_of g e.u e.v e.measure measures; ends = ends_of e.u e.v e.measure measures }

  -- so can each block
  pub block_measurable : (b : Block) → Contains g.blocks b → AreMeasurable p b.pins
  block_measurable b h =
      let of = sound.blocks_sound b h in
      record { on_sheet = of.pins.on_sheet; placed = λ i d i_in. placed_node (get_or b.pins i d).elem kinds.Point (of.at_points i d i_in) }

abbrev pub any_node : Node
any_node = record { elem = record { 0 = 0 }; kind = kinds.Point }

abbrev pub any_edge : Edge
any_edge = record { id = record { 0 = 0 }; u = record { 0 = 0 }; v = record { 0 = 0 }; measure = PointPoint (record { 0 = pos 0 }) }

abbrev pub any_block : Block
any_block = record { id = record { 0 = 0 }; pins = [] }

abbrev pub any_pin : Pin
any_pin = record { elem = record { 0 = 0 }; x = record { 0 = pos 0 }; y = record { 0 = pos 0 } }
