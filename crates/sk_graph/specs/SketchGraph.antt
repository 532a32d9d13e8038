-- The constraint graph of a sketch: a node for each element, where a circle is its centre, an edge for
-- each constraint between two elements, told by its own constraint and the shapes that this names, and
-- each rigid block.
use Rattle.std.specs.Prelude.{nat_lt, if◌then◌else◌, ℤ, pos, ◌+ℤ◌, ◌-ℤ◌, Option, Some, None, map, unwrap_or, unsigned_abs}
use Rattle.std.specs.List.{filter_map}
use Rattle.sk_base.specs.declared.numbered.Elem.{Elem}
use Rattle.sk_base.specs.declared.numbered.ConId.{ConId}
use Rattle.sk_base.specs.declared.measure.Um.{Um}
use Rattle.sk_base.specs.declared.measure.Ratio.{Ratio}
use Rattle.sk_base.specs.declared.measure.Kind.{Kind}
use Rattle.sk_base.specs.declared.measure.Kind.TheVariants as kinds
use Rattle.sk_base.specs.declared.measure.Sign.{Sign}
use Rattle.sk_base.specs.declared.measure.Sign.TheVariants.{Plus}
use Rattle.sk_base.specs.declared.measure.Measure.TheVariants.{PointPoint, PointLine, LineLine}
use Rattle.sk_base.specs.declared.sketch.Shape.{Shape}
use Rattle.sk_base.specs.declared.sketch.Shape.TheVariants.{Point, Line, Circle}
use Rattle.sk_base.specs.declared.sketch.Element.{Element}
use Rattle.sk_base.specs.declared.sketch.Rule.{Rule}
use Rattle.sk_base.specs.declared.sketch.Rule.TheVariants.{Distance, On, Tangent, Outside, Inside, Angle}
use Rattle.sk_base.specs.declared.sketch.Rule.TheVariants as rules_of
use Rattle.sk_base.specs.declared.sketch.Constraint.{Constraint}
use Rattle.sk_base.specs.declared.sketch.Sketch.{Sketch}
use Rattle.sk_base.specs.declared.graph.Node.{Node}
use Rattle.sk_base.specs.declared.graph.Edge.{Edge}
use Rattle.sk_base.specs.declared.graph.Block.{Block}
use Rattle.sk_base.specs.declared.graph.Graph.{Graph}
use Rattle.sk_base.specs.Drawn.{shape_of, is_line, radius_of}
use Rattle.sk_orient.specs.DrawnSigns.{side_drawn, sense_drawn}

-- a circle is its centre, a point
abbrev pub kind_of : Shape → Kind
kind_of (Point x y) = kinds.Point
kind_of (Line x1 y1 x2 y2) = kinds.Line
kind_of (Circle x y r) = kinds.Point

abbrev pub node_of : Element → Node
node_of e = record { elem = e.number; kind = kind_of e.shape }

-- how an element of that number is drawn; a sound sketch draws each element that a constraint names
abbrev pub drawn_as : Sketch → Elem → Shape
drawn_as s e = unwrap_or (shape_of s e) (Point (record { 0 = pos 0 }) (record { 0 = pos 0 }))

-- two points or centres so far apart, the lesser number first
abbrev pub apart : ConId → Elem → Elem → ℤ → Edge
apart id u v len =
    if nat_lt u.0 v.0 then record { id = id; u = u; v = v; measure = PointPoint (record { 0 = len }) }
    else record { id = id; u = v; v = u; measure = PointPoint (record { 0 = len }) }

-- a point or centre so far from a line, on that side
abbrev pub beside : ConId → Elem → Elem → ℤ → Sign → Edge
beside id p line len side = record { id = id; u = p; v = line; measure = PointLine (record { 0 = len }) side }

-- the one or the other is a line, and else both are points or centres
abbrev pub distance_edge : ConId → Elem → Elem → Um → Shape → Shape → Edge
distance_edge id u v len a b =
    if is_line a then beside id v u len.0 (side_drawn a b)
    else (if is_line b then beside id u v len.0 (side_drawn b a) else apart id u v len.0)

-- on a line the distance is 0, on a circle it is the radius
abbrev pub on_edge : ConId → Elem → Elem → Shape → Edge
on_edge id u v b = if is_line b then beside id u v (pos 0) Plus else apart id u v (radius_of b)

-- the one is the line, and the other the circle
abbrev pub tangent_edge : ConId → Elem → Elem → Shape → Shape → Edge
tangent_edge id u v a b =
    if is_line a then beside id v u (radius_of b) (side_drawn a b) else beside id u v (radius_of a) (side_drawn b a)

-- circles that touch from outside: their centres are both radii apart
abbrev pub outside_edge : ConId → Elem → Elem → Shape → Shape → Edge
outside_edge id u v a b = apart id u v (radius_of a +ℤ radius_of b)

-- circles that touch from inside: their centres are the difference of the radii apart
abbrev pub inside_edge : ConId → Elem → Elem → Shape → Shape → Edge
inside_edge id u v a b = apart id u v (pos (unsigned_abs (radius_of a -ℤ radius_of b)))

-- an angle from the one line to the other, in the sense in which it is drawn
abbrev pub angle_edge : ConId → Elem → Elem → Ratio → Shape → Shape → Edge
angle_edge id l m ratio a b = record { id = id; u = l; v = m; measure = LineLine ratio (sense_drawn a b ratio) }

-- the edge that a rule gives, if it is between two elements
abbrev pub rule_edge : Sketch → ConId → Rule → Option Edge
rule_edge s id (Distance u v len) = Some (distance_edge id u v len (drawn_as s u) (drawn_as s v))
rule_edge s id (On u v) = Some (on_edge id u v (drawn_as s v))
rule_edge s id (Tangent u v) = Some (tangent_edge id u v (drawn_as s u) (drawn_as s v))
rule_edge s id (Outside u v) = Some (outside_edge id u v (drawn_as s u) (drawn_as s v))
rule_edge s id (Inside u v) = Some (inside_edge id u v (drawn_as s u) (drawn_as s v))
rule_edge s id (Angle l m ratio) = Some (angle_edge id l m ratio (drawn_as s l) (drawn_as s m))
rule_edge s id (rules_of.Block pins) = None

abbrev pub edge_of : Sketch → Constraint → Option Edge
edge_of s c = rule_edge s c.number c.rule

-- the block that a rule gives, if it is one
abbrev pub rule_block : ConId → Rule → Option Block
rule_block id (rules_of.Block pins) = Some (record { id = id; pins = pins })
rule_block id other = None

abbrev pub block_of : Constraint → Option Block
block_of c = rule_block c.number c.rule

-- the graph of a sketch
abbrev pub graph_of : Sketch → Graph
graph_of s = record {
  nodes = map node_of s.elements;
  edges = filter_map (edge_of s) s.constraints;
  blocks = filter_map block_of s.constraints;
}
