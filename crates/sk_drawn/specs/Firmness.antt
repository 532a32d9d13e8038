-- How firmly a constraint between two elements holds two parts that share a third one alone, as far as the drawing tells.
use Rattle.std.specs.Prelude.{◌≡◌, ◌≤◌, ℕ, pos, ◌+◌, ◌*◌, ◌/◌, max, true, unsigned_abs, if◌then◌else◌, Some}
use Rattle.sk_base.specs.declared.Elem.{Elem}
use Rattle.sk_base.specs.declared.Shape.{Shape}
use Rattle.sk_base.specs.declared.Sketch.{Sketch}
use Rattle.sk_base.specs.Drawn.{is_line, shape_of}
use Rattle.sk_orient.specs.declared.Vector.{Vector}
use Rattle.sk_orient.specs.DrawnSigns.{place_of, direction_of}
use Rattle.sk_orient.specs.Vectors.{way, cross, dot}
use Rattle.sk_drawn.specs.declared.grade.Firm.{Firm}
use Rattle.sk_drawn.specs.declared.grade.Firm.TheVariants.{Sine, Angle}
use Rattle.sk_drawn.specs.DrawnValues.{Quotient, from_line, square}

abbrev pub across : Vector → Vector → Firm
across v w = Sine (cross v w) (square v * square w)

abbrev pub along : Vector → Vector → Firm
along v w = Sine (dot v w) (square v * square w)

abbrev pub from_to : Shape → Shape → Vector
from_to a b = way (place_of a) (place_of b)

-- about three points: the sine of the angle between the greater one of the two ways from w and the way from u to v
abbrev pub of_three : Shape → Shape → Shape → Firm
of_three w u v = Sine (cross (from_to w u) (from_to w v)) (max (square (from_to w u)) (square (from_to w v)) * square (from_to u v))

-- Two parts that share a point turn about it, and two that share a line slide along it. The constraint between u and v
-- holds them by the sine of the angle between the way in which it lets them go and the way in which they go. An angle
-- holds two parts that turn about a point, however they are drawn.
abbrev pub firm_between : Shape → Shape → Shape → Firm
firm_between w u v =
    if is_line w then (if is_line u then across (direction_of w) (direction_of u) else (if is_line v then across (direction_of w) (direction_of v) else along (direction_of w) (from_to u v)))
    else (if is_line u then (if is_line v then Angle else along (direction_of u) (from_to w v)) else (if is_line v then along (direction_of v) (from_to w u) else of_three w u v))

-- in sixteenths, of a sine its square
abbrev pub grade_of : Firm → ℕ
grade_of (Sine x m) = (unsigned_abs x * unsigned_abs x) / (m / 16 + 1)
grade_of Angle = 16

-- a sine's numerator as drawn vectors have it
abbrev pub IsFew : Firm → Type 0
IsFew (Sine x m) = unsigned_abs x ≤ 8000000000000000000
IsFew Angle = Unit {0}

-- as drawn it holds nothing
abbrev pub IsFlat : Firm → Type 0
IsFlat (Sine x m) = x ≡ pos 0
IsFlat Angle = ⊥

-- the square of how far a point or centre is drawn from a line, rounded down
abbrev pub floor_from : Shape → Shape → ℕ
floor_from line p = (from_line line p).over / (from_line line p).under

-- the square of how far two elements are drawn apart, rounded down, and 0 for two lines
abbrev pub reach : Shape → Shape → ℕ
reach a b = if is_line a then (if is_line b then 0 else floor_from a b) else (if is_line b then floor_from b a else square (from_to a b))

-- the three are drawn, and they aren't all lines
pub record IsFirmness (s : Sketch) (w u v : Elem) (firm : Firm) : Type 0 where
  pub shared : Shape
  pub first : Shape
  pub second : Shape
  pub is_shared : shape_of s w ≡ Some shared
  pub is_first : shape_of s u ≡ Some first
  pub is_second : shape_of s v ≡ Some second
  pub not_lines : ¬ ((is_line shared ≡ true) × (is_line first ≡ true) × (is_line second ≡ true))
  pub is : firm ≡ firm_between shared first second
