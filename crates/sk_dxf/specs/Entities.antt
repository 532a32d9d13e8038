-- The text of a placed sketch as DXF. Lengths are in nanometres, and are printed as millimetres.
use Rattle.std.specs.Prelude.{ℕ, ℤ, pos, ◌*ℤ◌, List, [], ◌++◌, Option, Some, None, codes}
use Rattle.std.specs.List.{flat_map}
use Rattle.std.specs.Fmt.{decimal}
use Rattle.sk_base.specs.declared.numbered.Elem.{Elem}
use Rattle.sk_base.specs.declared.placed.At.{At}
use Rattle.sk_base.specs.declared.placed.At.TheVariants.{Point, Line}
use Rattle.sk_base.specs.declared.placed.Placed.{Placed}
use Rattle.sk_base.specs.declared.sketch.Element.{Element}
use Rattle.sk_base.specs.declared.sketch.Shape.{Shape}
use Rattle.sk_base.specs.declared.sketch.Shape.TheVariants as shapes
use Rattle.sk_base.specs.declared.sketch.Sketch.{Sketch}
use Rattle.sk_base.specs.Places.{place_of}
use Rattle.sk_base.specs.Spelling.{fixed_text}
use Rattle.sk_dxf.specs.declared.course.Course.{Course}
use Rattle.sk_dxf.specs.declared.course.Place.{Place}
use Rattle.sk_dxf.specs.declared.segment.Segment.{Segment}
use Rattle.sk_dxf.specs.Courses.{place_at}
use Rattle.sk_dxf.specs.Neighbours.{neighbours_along}
use Rattle.sk_dxf.specs.Segments.{reach, drawn}

-- a group code and its value, each on a line of its own
abbrev pub pair : ℕ → List ℕ → List ℕ
pair code value = decimal code ++ (codes "\n" ++ (value ++ codes "\n"))

-- a group code and a length
unfoldable pub length_pair : ℕ → ℤ → List ℕ
length_pair code nm = pair code (fixed_text nm)

-- an entity begins with its name and the layer 0
abbrev pub entity_head : List ℕ → List ℕ
entity_head name = pair 0 name ++ pair 8 (codes "0")

abbrev pub point_entity : Place → List ℕ
point_entity place = entity_head (codes "POINT") ++ (length_pair 10 place.x ++ length_pair 20 place.y)

abbrev pub circle_entity : Place → ℤ → List ℕ
circle_entity centre r =
    entity_head (codes "CIRCLE") ++ (length_pair 10 centre.x ++ (length_pair 20 centre.y ++ length_pair 40 r))

abbrev pub line_entity : Place → Place → List ℕ
line_entity from to =
    entity_head (codes "LINE") ++ (length_pair 10 from.x ++ (length_pair 20 from.y ++ (length_pair 11 to.x ++ length_pair 21 to.y)))

-- a circle round the place of its centre, whose radius is drawn in micrometres; else the point
abbrev pub centre_entity : Shape → Place → List ℕ
centre_entity (shapes.Point x y) place = point_entity place
centre_entity (shapes.Line x1 y1 x2 y2) place = point_entity place
centre_entity (shapes.Circle x y r) place = circle_entity place (pos 1000 *ℤ r.0)

-- the segment that the neighbours of the line of that number span along it
abbrev pub segment_of : Sketch → Placed → Elem → Course → Segment
segment_of s p e line = drawn (reach (neighbours_along p e line s.constraints))

-- a segment of the line, from its first end to its last
abbrev pub segment_entity : Course → Segment → List ℕ
segment_entity line segment = line_entity (place_at line segment.first) (place_at line segment.last)

-- the element as it is placed
abbrev pub entity_at : Sketch → Placed → Element → Option At → List ℕ
entity_at s p x None = []
entity_at s p x (Some (Point px py)) = centre_entity x.shape (record { x = px; y = py })
entity_at s p x (Some (Line a b c)) =
    let line : Course = record { a = a; b = b; c = c } in
    segment_entity line (segment_of s p x.number line)

abbrev pub entity : Sketch → Placed → Element → List ℕ
entity s p x = entity_at s p x (place_of p x.number)

-- a section of entities, one for each element in order
abbrev pub dxf_of : Sketch → Placed → List ℕ
dxf_of s p =
    pair 0 (codes "SECTION") ++ (pair 2 (codes "ENTITIES") ++ (flat_map (entity s p) s.elements ++ (pair 0 (codes "ENDSEC") ++ pair 0 (codes "EOF"))))
