-- The datum sketch: two axes at a right angle, and points that are measured from both.
use Rattle.std.specs.Prelude.{ℕ, ◌+◌, ◌-◌, ◌*◌, ◌%◌, pos, List, [], ◌∷◌, ◌++◌, map, codes}
use Rattle.std.specs.List.{flat_map, range_with_len}
use Rattle.std.specs.Fmt.{decimal}
use Rattle.sk_base.specs.declared.numbered.Elem.{Elem}
use Rattle.sk_base.specs.declared.measure.Um.{Um}
use Rattle.sk_base.specs.declared.sketch.Element.{Element}
use Rattle.sk_base.specs.declared.sketch.Shape.TheVariants.{Point, Line}
use Rattle.sk_base.specs.declared.sketch.Rule.TheVariants.{Distance, Angle}
use Rattle.sk_base.specs.declared.sketch.Constraint.{Constraint}
use Rattle.sk_base.specs.declared.sketch.Sketch.{Sketch}

-- so many millimetres
abbrev pub mm : ℕ → Um
mm n = record { 0 = pos (1000 * n) }

abbrev pub x_axis : Element
x_axis = record { number = record { 0 = 1 }; label = codes "X"; shape = Line (mm 0) (mm 0) (mm 1000) (mm 0) }

abbrev pub y_axis : Element
y_axis = record { number = record { 0 = 2 }; label = codes "Y"; shape = Line (mm 0) (mm 0) (mm 0) (mm 1000) }

-- the coordinates of the point k, in millimetres
abbrev pub x_of : ℕ → ℕ
x_of k = 1 + (17 * k) % 700

abbrev pub y_of : ℕ → ℕ
y_of k = 1 + (31 * k) % 500

-- the points follow the two axes
abbrev pub point_elem : ℕ → Elem
point_elem k = record { 0 = k + 2 }

abbrev pub point_name : ℕ → List ℕ
point_name k = codes "P" ++ decimal k

abbrev pub point : ℕ → Element
point k = record { number = point_elem k; label = point_name k; shape = Point (mm (x_of k)) (mm (y_of k)) }

-- the axes, and so many points
abbrev pub elements_of : ℕ → List Element
elements_of points = x_axis ∷ y_axis ∷ map point (range_with_len 1 points)

-- the angle from X to Y is a right one
abbrev pub right_angle : Constraint
right_angle = record { number = record { 0 = 1 }; rule = Angle (record { 0 = 1 }) (record { 0 = 2 }) (record { p = pos 1; q = pos 0 }) }

-- how far the point k is from X
abbrev pub from_x : ℕ → Constraint
from_x k = record { number = record { 0 = 2 * k }; rule = Distance (point_elem k) (record { 0 = 1 }) (mm (y_of k)) }

-- how far the point k is from Y
abbrev pub from_y : ℕ → Constraint
from_y k = record { number = record { 0 = 2 * k + 1 }; rule = Distance (point_elem k) (record { 0 = 2 }) (mm (x_of k)) }

abbrev pub distances : ℕ → List Constraint
distances k = from_x k ∷ from_y k ∷ []

-- the right angle, and two distances for each of so many points
abbrev pub constraints_of : ℕ → List Constraint
constraints_of points = right_angle ∷ flat_map distances (range_with_len 1 points)

-- the sketch of n elements
abbrev pub datum_sketch : ℕ → Sketch
datum_sketch n = record { elements = elements_of (n - 2); constraints = constraints_of (n - 2) }
