-- The signs of a drawing. Zero counts as plus.
use Rattle.std.specs.Prelude.{ℤ, pos, negsuc}
use Rattle.sk_base.specs.declared.measure.Sign.{Sign}
use Rattle.sk_base.specs.declared.measure.Sign.TheVariants.{Plus, Minus}
use Rattle.sk_base.specs.declared.measure.Ratio.{Ratio}
use Rattle.sk_base.specs.declared.sketch.Shape.{Shape}
use Rattle.sk_base.specs.declared.sketch.Shape.TheVariants.{Point, Line, Circle}
use Rattle.sk_base.specs.Bounds.{IsCoordinate}
use Rattle.sk_orient.specs.declared.vector.Vector.{Vector}
use Rattle.sk_orient.specs.Vectors.{way, cross, dot, rotation}

-- every coordinate is within the limit of a drawing
abbrev pub IsOnPaper : Shape → Type 0
IsOnPaper (Point x y) = IsCoordinate x × IsCoordinate y
IsOnPaper (Line x1 y1 x2 y2) = IsCoordinate x1 × IsCoordinate y1 × IsCoordinate x2 × IsCoordinate y2
IsOnPaper (Circle x y r) = IsCoordinate x × IsCoordinate y

-- where a point is drawn, a circle its centre, and a line its first place
abbrev pub place_of : Shape → Vector
place_of (Point x y) = record { x = x.0; y = y.0 }
place_of (Line x1 y1 x2 y2) = record { x = x1.0; y = y1.0 }
place_of (Circle x y r) = record { x = x.0; y = y.0 }

-- from a line's first place to its second; a point and a circle have none
abbrev pub direction_of : Shape → Vector
direction_of (Point x y) = record { x = pos 0; y = pos 0 }
direction_of (Line x1 y1 x2 y2) = way (record { x = x1.0; y = y1.0 }) (record { x = x2.0; y = y2.0 })
direction_of (Circle x y r) = record { x = pos 0; y = pos 0 }

abbrev pub drawn_sign : ℤ → Sign
drawn_sign (pos n) = Plus
drawn_sign (negsuc n) = Minus

-- plus where the point lies to the left of the line
abbrev pub side_drawn : Shape → Shape → Sign
side_drawn line p = drawn_sign (cross (direction_of line) (way (place_of line) (place_of p)))

-- the sense of the angle from the one line to the other
abbrev pub sense_drawn : Shape → Shape → Ratio → Sign
sense_drawn l m ratio = drawn_sign (rotation (direction_of l) (direction_of m) ratio)

-- plus where the three points go round to the left
abbrev pub turn_drawn : Shape → Shape → Shape → Sign
turn_drawn p q r = drawn_sign (cross (way (place_of p) (place_of q)) (way (place_of p) (place_of r)))

-- plus where the way from p to q goes forward along the line
abbrev pub advance_drawn : Shape → Shape → Shape → Sign
advance_drawn line p q = drawn_sign (dot (direction_of line) (way (place_of p) (place_of q)))
