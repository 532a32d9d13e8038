-- Where the frame of a plan's base lies in the drawing.
use Rattle.std.specs.Prelude.{pos, List, [], ◌∷◌, Option, Some, None}
use Rattle.sk_base.specs.declared.Block.{Block}
use Rattle.sk_base.specs.declared.ConId.{ConId}
use Rattle.sk_base.specs.declared.Edge.{Edge}
use Rattle.sk_base.specs.declared.Graph.{Graph}
use Rattle.sk_base.specs.declared.Measure.{Measure}
use Rattle.sk_base.specs.declared.Measure.TheVariants.{PointPoint, PointLine, LineLine}
use Rattle.sk_base.specs.declared.Node.{Node}
use Rattle.sk_base.specs.declared.Pin.{Pin}
use Rattle.sk_base.specs.declared.Shape.{Shape}
use Rattle.sk_base.specs.declared.Sketch.{Sketch}
use Rattle.sk_base.specs.Lookups.{edge_numbered, block_numbered}
use Rattle.sk_orient.specs.declared.Vector.{Vector}
use Rattle.sk_orient.specs.Vectors.{IsShort, way}
use Rattle.sk_orient.specs.DrawnSigns.{place_of, direction_of}
use Rattle.sk_graph.specs.SketchGraph.{drawn_as}
use Rattle.sk_steps.specs.Leaves.{by_sign}
use Rattle.sk_tree.specs.declared.Plan.{Plan}
use Rattle.sk_frame.specs.declared.frames.Frame.{Frame}
use Rattle.sk_frame.specs.Bases.{base_of}
use Rattle.sk_frame.specs.Turns.{forward, origin, or_forward, turn_between, scaled}
use Rattle.sk_frame.specs.TurnBounds.{IsTurn}
use Rattle.sk_frame.specs.Crossings.{nanometres, meeting}

-- the place in the frame and where it is drawn, and the turn from the frame's direction g to the drawn direction d
abbrev pub frame_from : Vector → Vector → Vector → Vector → Frame
frame_from from to g d = record { from = from; to = to; turn = scaled (turn_between g (or_forward d)) }

-- as it lies
abbrev pub still : Frame
still = frame_from origin origin forward forward

-- the frame of two elements, by what is measured between them, and how the two are drawn
abbrev pub measured_frame : Measure → Shape → Shape → Frame
measured_frame (PointPoint far) a b = frame_from origin (nanometres (place_of a)) forward (way (place_of a) (place_of b))
measured_frame (PointLine far side) a b = frame_from (record { x = pos 0; y = by_sign side far.0 }) (nanometres (place_of a)) forward (direction_of b)
measured_frame (LineLine ratio sense) a b = frame_from origin (meeting a b) forward (direction_of a)

abbrev pub edge_frame : Sketch → Edge → Frame
edge_frame s e = measured_frame e.measure (drawn_as s e.u) (drawn_as s e.v)

-- the place that a block gives its pin
abbrev pub given_place : Pin → Vector
given_place pin = record { x = pin.x.0; y = pin.y.0 }

abbrev pub drawn_place : Sketch → Pin → Vector
drawn_place s pin = place_of (drawn_as s pin.elem)

-- the frame of a block, by its first two pins
abbrev pub block_frame : Sketch → List Pin → Frame
block_frame s (p ∷ q ∷ others) = frame_from (given_place p) (nanometres (drawn_place s p)) (way (given_place p) (given_place q)) (way (drawn_place s p) (drawn_place s q))
block_frame s (p ∷ []) = still
block_frame s [] = still

-- the frame of an element alone
abbrev pub lone_frame : Sketch → List Node → Frame
lone_frame s (n ∷ others) = frame_from origin (nanometres (place_of (drawn_as s n.elem))) forward (direction_of (drawn_as s n.elem))
lone_frame s [] = still

-- the frame of the edge or the block that a number finds
abbrev pub found_frame : Sketch → Option Edge → Option Block → Frame
found_frame s (Some e) block = edge_frame s e
found_frame s None (Some b) = block_frame s b.pins
found_frame s None None = still

-- the frame of a constraint
abbrev pub constraint_frame : Sketch → Graph → ConId → Frame
constraint_frame s g number = found_frame s (edge_numbered g number.0) (block_numbered g number.0)

-- the frame of the base, or of the only element; a legal plan of a sketch's graph has one or the other
abbrev pub based_frame : Sketch → Graph → Option ConId → Frame
based_frame s g (Some number) = constraint_frame s g number
based_frame s g None = lone_frame s g.nodes

abbrev pub frame_of : Sketch → Graph → Plan → Frame
frame_of s g p = based_frame s g (base_of p)

-- the numbers of a frame are within bounds
pub record IsSoundFrame (f : Frame) : Type 0 where
  pub from : IsShort 1000000000 f.from
  pub to : IsShort 1000000000000 f.to
  pub turn : IsTurn f.turn
