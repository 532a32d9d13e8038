-- Boxes by their kinds, and as lists of intervals.
use Rattle.std.specs.Prelude.{ℕ, pos, ◌-◌, List, [], ◌∷◌, length, Result, Ok, Err}
use Rattle.sk_base.specs.declared.Kind.{Kind}
use Rattle.sk_interval.specs.Interval.{Interval}
use Rattle.sk_steps.specs.declared.boxes.PointBox.{PointBox}
use Rattle.sk_steps.specs.declared.boxes.LineBox.{LineBox}
use Rattle.sk_steps.specs.declared.boxes.BoxOf.{BoxOf}
use Rattle.sk_steps.specs.declared.boxes.BoxOf.TheVariants.{Point, Line}
use Rattle.sk_steps.specs.Expressions.{at}

abbrev pub kind_of : {G : Type 0} → BoxOf G → Kind
kind_of (Point x y) = Kind.Point
kind_of (Line a b c) = Kind.Line

abbrev pub zero : Interval
zero = record { lo = pos 0; hi = pos 0 }

-- three places for each box, since a line has three numbers
abbrev pub numbers : {G : Type 0} → BoxOf G → List Interval
numbers (Point x y) = x ∷ y ∷ zero ∷ []
numbers (Line a b c) = a ∷ b ∷ c ∷ []

abbrev pub point_numbers : {G : Type 0} → PointBox G → List Interval
point_numbers p = p.x ∷ p.y ∷ zero ∷ []

abbrev pub line_numbers : {G : Type 0} → LineBox G → List Interval
line_numbers l = l.a ∷ l.b ∷ l.c ∷ []

-- the quantity so many places before the end
abbrev pub from_end : List Interval → ℕ → Interval
from_end found k = at found (length found - k)

-- the box of this kind whose numbers are the last quantities
abbrev pub last_box : {G : Type 0} → Kind → List Interval → BoxOf G
last_box Kind.Point found = Point (from_end found 2) (from_end found 1)
last_box Kind.Line found = Line (from_end found 3) (from_end found 2) (from_end found 1)

abbrev pub box_of : {G N : Type 0} → Kind → Result (List Interval) N → Result (BoxOf G) N
box_of kind (Ok found) = Ok (last_box kind found)
box_of kind (Err fault) = Err fault
