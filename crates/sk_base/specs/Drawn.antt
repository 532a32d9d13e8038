-- The elements of a sketch by their numbers, and what shapes they have.
use Rattle.std.specs.Prelude.{◌==◌, Bool, true, false, Option, find, ℤ, pos}
use Rattle.std.specs.Option.{option_map}
use Rattle.sk_base.specs.declared.numbered.Elem.{Elem}
use Rattle.sk_base.specs.declared.sketch.Element.{Element}
use Rattle.sk_base.specs.declared.sketch.Shape.{Shape}
use Rattle.sk_base.specs.declared.sketch.Shape.TheVariants.{Point, Line, Circle}
use Rattle.sk_base.specs.declared.sketch.Sketch.{Sketch}

-- the element of that number
abbrev pub element_of : Sketch → Elem → Option Element
element_of s e = find (λ (x : Element). x.number.0 == e.0) s.elements

-- how the element of that number is drawn
abbrev pub shape_of : Sketch → Elem → Option Shape
shape_of s e = option_map (λ (x : Element). x.shape) (element_of s e)

abbrev pub IsPoint : Shape → Type 0
IsPoint (Point x y) = Unit {0}
IsPoint (Line x1 y1 x2 y2) = ⊥
IsPoint (Circle x y r) = ⊥

abbrev pub IsLine : Shape → Type 0
IsLine (Point x y) = ⊥
IsLine (Line x1 y1 x2 y2) = Unit {0}
IsLine (Circle x y r) = ⊥

abbrev pub IsCircle : Shape → Type 0
IsCircle (Point x y) = ⊥
IsCircle (Line x1 y1 x2 y2) = ⊥
IsCircle (Circle x y r) = Unit {0}

-- a point, or a circle with its centre
abbrev pub HasCentre : Shape → Type 0
HasCentre (Point x y) = Unit {0}
HasCentre (Line x1 y1 x2 y2) = ⊥
HasCentre (Circle x y r) = Unit {0}

abbrev pub is_line : Shape → Bool
is_line (Point x y) = false
is_line (Line x1 y1 x2 y2) = true
is_line (Circle x y r) = false

-- the radius of a circle in micrometres; a point and a line have none
abbrev pub radius_of : Shape → ℤ
radius_of (Point x y) = pos 0
radius_of (Line x1 y1 x2 y2) = pos 0
radius_of (Circle x y r) = r.0
