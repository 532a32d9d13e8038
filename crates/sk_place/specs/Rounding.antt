-- Midpoints, rounded to whole nanometres and to whole parts of 10^9.
use Rattle.std.specs.Prelude.{ℕ, ℤ, pos, ◌+ℤ◌, ◌*ℤ◌, ◌+◌, ◌*◌, ◌^◌, ◌≤◌, unsigned_abs, List, All, map}
use Rattle.sk_base.specs.declared.At.{At}
use Rattle.sk_base.specs.declared.Kind.{Kind}
use Rattle.sk_base.specs.declared.Node.{Node}
use Rattle.sk_base.specs.declared.Spot.{Spot}
use Rattle.sk_base.specs.Nearest.{nearest}
use Rattle.sk_interval.specs.Interval.{Interval}
use Rattle.sk_steps.specs.declared.BoxOf.{BoxOf}
use Rattle.sk_steps.specs.declared.BoxOf.TheVariants.{Point, Line}
use Rattle.sk_place.specs.declared.boxes.BoxAt.{BoxAt}

-- no end is more than 2 ^ k in value
abbrev pub IsWithin : ℕ → ℕ → Interval → Type 0
IsWithin k F x = (unsigned_abs x.lo ≤ 2 ^ (k + F)) × (unsigned_abs x.hi ≤ 2 ^ (k + F))

-- lengths are within 2 ^ 40, parts of a normal within 2
abbrev pub IsBoundedBox : {G : Type 0} → ℕ → BoxOf G → Type 0
IsBoundedBox F (Point x y) = IsWithin 40 F x × IsWithin 40 F y
IsBoundedBox F (Line a b c) = IsWithin 1 F a × IsWithin 1 F b × IsWithin 40 F c

abbrev pub AreBounded : {G : Type 0} → ℕ → List (BoxAt G) → Type 0
AreBounded F bs = All (λ b. IsBoundedBox F b.at) bs

-- half the sum of the ends, in so many parts of 1, to the nearest whole number, halves away from zero
abbrev pub midpoint : ℕ → ℕ → Interval → ℤ
midpoint F parts x = nearest (2 * 2 ^ F) ((x.lo +ℤ x.hi) *ℤ pos parts)

-- a place is a point's or a line's
abbrev pub kind_at : At → Kind
kind_at (At.Point x y) = Kind.Point
kind_at (At.Line a b c) = Kind.Line

-- the elements that have places, each with its place's kind
abbrev pub nodes_at : List Spot → List Node
nodes_at spots = map (λ (s : Spot). record { elem = s.elem; kind = kind_at s.at }) spots

-- lengths are in millimetres, and are given in nanometres
abbrev pub rounded_box : {G : Type 0} → ℕ → BoxOf G → At
rounded_box F (Point x y) = At.Point (midpoint F 1000000 x) (midpoint F 1000000 y)
rounded_box F (Line a b c) = At.Line (midpoint F 1000000000 a) (midpoint F 1000000000 b) (midpoint F 1000000 c)

abbrev pub rounded : {G : Type 0} → ℕ → BoxAt G → Spot
rounded F b = record { elem = b.elem; at = rounded_box F b.at }
