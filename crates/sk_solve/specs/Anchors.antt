-- The anchor of a plan: the element whose place the frame of the base takes to the drawing.
use Rattle.std.specs.Prelude.{◌≡◌, List, [], ◌∷◌, Option, Some, None}
use Rattle.sk_base.specs.declared.At.{At}
use Rattle.sk_base.specs.declared.Block.{Block}
use Rattle.sk_base.specs.declared.ConId.{ConId}
use Rattle.sk_base.specs.declared.Edge.{Edge}
use Rattle.sk_base.specs.declared.Elem.{Elem}
use Rattle.sk_base.specs.declared.Graph.{Graph}
use Rattle.sk_base.specs.declared.Kind.{Kind}
use Rattle.sk_base.specs.declared.Kind.TheVariants as kinds
use Rattle.sk_base.specs.declared.Measure.{Measure}
use Rattle.sk_base.specs.declared.Measure.TheVariants.{PointPoint, PointLine, LineLine}
use Rattle.sk_base.specs.declared.Node.{Node}
use Rattle.sk_base.specs.declared.Pin.{Pin}
use Rattle.sk_base.specs.declared.Placed.{Placed}
use Rattle.sk_base.specs.declared.Sketch.{Sketch}
use Rattle.sk_base.specs.Lookups.{edge_numbered, block_numbered}
use Rattle.sk_base.specs.Places.{place_of}
use Rattle.sk_orient.specs.declared.Vector.{Vector}
use Rattle.sk_orient.specs.DrawnSigns.{place_of as drawn_place}
use Rattle.sk_graph.specs.SketchGraph.{drawn_as}
use Rattle.sk_tree.specs.declared.Plan.{Plan}
use Rattle.sk_frame.specs.Bases.{base_of}
use Rattle.sk_frame.specs.Crossings.{nanometres}

-- of two elements the first, where it is a point; two lines have none
abbrev pub measured_anchor : Measure → Elem → Option Elem
measured_anchor (PointPoint far) u = Some u
measured_anchor (PointLine far side) u = Some u
measured_anchor (LineLine ratio sense) u = None

-- of a block the element at its first pin
abbrev pub first_pinned : List Pin → Option Elem
first_pinned [] = None
first_pinned (pin ∷ pins) = Some pin.elem

-- the only element, where it is a point
abbrev pub lone_anchor : Kind → Elem → Option Elem
lone_anchor kinds.Point e = Some e
lone_anchor kinds.Line e = None

abbrev pub first_anchor : List Node → Option Elem
first_anchor [] = None
first_anchor (n ∷ others) = lone_anchor n.kind n.elem

abbrev pub constraint_anchor : Option Edge → Option Block → Option Elem
constraint_anchor (Some e) block = measured_anchor e.measure e.u
constraint_anchor None (Some b) = first_pinned b.pins
constraint_anchor None None = None

abbrev pub based_anchor : Graph → Option ConId → Option Elem
based_anchor g (Some k) = constraint_anchor (edge_numbered g k.0) (block_numbered g k.0)
based_anchor g None = first_anchor g.nodes

-- the anchor of the plan's base, or of the only element; a base of two lines and a line alone have none
abbrev pub anchor_of : Graph → Plan → Option Elem
anchor_of g p = based_anchor g (base_of p)

abbrev pub at_place : Vector → At
at_place v = At.Point v.x v.y

-- the element is placed in whole nanometres at the very place at which it is drawn
abbrev pub LiesAsDrawn : Sketch → Placed → Elem → Type 0
LiesAsDrawn s at e = place_of at e ≡ Some (at_place (nanometres (drawn_place (drawn_as s e))))
