-- The values that a drawing has between two of its elements.
use Rattle.std.specs.Prelude.{◌≡◌, ◌⊎◌, Bool, false, true, ◌≢◌, ◌≤◌, ◌<◌, ◌+◌, ◌-◌, ◌*◌, ◌*ℤ◌, ◌&&◌, nat_lt, min, max, ℕ, ℤ, pos, neg_ℤ, nat_le, int_lt, if◌then◌else◌, unsigned_abs}
use Rattle.sk_base.specs.declared.Elem.{Elem}
use Rattle.sk_base.specs.declared.Ratio.{Ratio}
use Rattle.sk_base.specs.declared.Rule.{Rule}
use Rattle.sk_base.specs.declared.Rule.TheVariants.{Distance, On, Tangent, Outside, Inside, Angle, Block}
use Rattle.sk_base.specs.declared.Shape.{Shape}
use Rattle.sk_base.specs.declared.Sketch.{Sketch}
use Rattle.sk_base.specs.Drawn.{is_line, IsLine}
use Rattle.sk_base.specs.SoundSketch.{IsSoundRule}
use Rattle.sk_graph.specs.SketchGraph.{drawn_as}
use Rattle.sk_orient.specs.declared.Vector.{Vector}
use Rattle.sk_orient.specs.DrawnSigns.{place_of, direction_of}
use Rattle.sk_orient.specs.Vectors.{way, cross, dot}

-- a quotient of two whole numbers
pub record Quotient : Type 0 where
  pub over : ℕ
  pub under : ℕ

-- the square of a vector's length
abbrev pub square : Vector → ℕ
square v = unsigned_abs (dot v v)

-- the square of how far two points or centres are drawn apart
abbrev pub between : Shape → Shape → Quotient
between a b = record { over = square (way (place_of a) (place_of b)); under = 1 }

-- the square of how far a point or centre is drawn from a line
abbrev pub from_line : Shape → Shape → Quotient
from_line line p =
    let height = unsigned_abs (cross (direction_of line) (way (place_of line) (place_of p))) in
    record { over = height * height; under = square (direction_of line) }

-- the square of how far two elements are drawn apart, one of which has a centre
abbrev pub apart_squared : Shape → Shape → Quotient
apart_squared a b = if is_line a then from_line a b else (if is_line b then from_line b a else between a b)

-- r is the root of the quotient, to the nearest whole number, halves up
pub record IsNearestRoot (q : Quotient) (r : ℕ) : Type 0 where
  pub low : (2 * r - 1) * (2 * r - 1) * q.under ≤ 4 * q.over
  pub high : 4 * q.over < (2 * r + 1) * (2 * r + 1) * q.under

-- the two are drawn so many whole micrometres apart
abbrev pub IsDrawnApart : Shape → Shape → ℕ → Type 0
IsDrawnApart a b r = IsNearestRoot (apart_squared a b) r

-- how far two numbers are apart
abbrev pub gap : ℕ → ℕ → ℕ
gap m n = (m - n) + (n - m)

-- of all fractions with a denominator from 1 to 10,000 none is nearer to a / b than x / y, and each with a lesser
-- denominator is further off: of several that are as near it is the one with the least
pub record IsNearestFraction (a b x y : ℕ) : Type 0 where
  pub some : 1 ≤ y
  pub few : y ≤ 10000
  pub nearest : (z w : ℕ) → 1 ≤ w → w ≤ 10000 → gap (x * b) (a * y) * w ≤ gap (z * b) (a * w) * y
  pub least : (z w : ℕ) → 1 ≤ w → w < y → gap (x * b) (a * y) * w < gap (z * b) (a * w) * y

-- the numerator p, below zero where one of two numbers is and the other isn't; where the denominator is 0 it never is
abbrev pub signed : ℤ → ℤ → ℕ → ℕ → ℤ
signed c d p q = if (int_lt (c *ℤ d) (pos 0) && nat_lt 0 q) then neg_ℤ (pos p) else pos p

-- The tangent c / d isn't 0. The ratio is x / y, the fraction nearest to it, where the angle is up to 45 degrees; of a
-- steeper one it is y / x, with the fraction nearest to d / c. So a right angle is 1/0, also where it is one by rounding.
pub record IsNearestRatio (c d : ℤ) (ratio : Ratio) : Type 0 where
  pub x : ℕ
  pub y : ℕ
  pub turned : c ≢ pos 0
  pub nearest : IsNearestFraction (min (unsigned_abs c) (unsigned_abs d)) (max (unsigned_abs c) (unsigned_abs d)) x y
  pub p : ratio.p ≡ signed c d (if nat_le (unsigned_abs c) (unsigned_abs d) then x else y) (if nat_le (unsigned_abs c) (unsigned_abs d) then y else x)
  pub q : ratio.q ≡ pos (if nat_le (unsigned_abs c) (unsigned_abs d) then y else x)

-- the ratio is nearest to the tangent of the angle from the one drawn line to the other
abbrev pub IsDrawnRatio : Shape → Shape → Ratio → Type 0
IsDrawnRatio l m ratio = IsNearestRatio (cross (direction_of l) (direction_of m)) (dot (direction_of l) (direction_of m)) ratio

-- the tangent of the angle between the two lines is nearer to 1/10,000 than to 0, so that its ratio isn't 0
abbrev pub IsTurned : Shape → Shape → Type 0
IsTurned l m = unsigned_abs (dot (direction_of l) (direction_of m)) < 20000 * unsigned_abs (cross (direction_of l) (direction_of m))

-- by whether the one and the other are lines
abbrev pub IsSizeBy : Bool → Bool → Shape → Shape → ℕ → Type 0
IsSizeBy true true a b n = (n ≡ 0) × IsTurned a b
IsSizeBy false false a b n = IsDrawnApart a b n × (1 ≤ n) × (n ≤ 1000000000)
IsSizeBy one other a b n = IsDrawnApart a b n × (n ≤ 1000000000)

-- the size of what is drawn between two elements: how far they are drawn apart, in whole micrometres, where a length says it;
-- of a line and what has a centre also 0; 0 for the angle of two lines
abbrev pub IsDrawnSize : Shape → Shape → ℕ → Type 0
IsDrawnSize a b n = IsSizeBy (is_line a) (is_line b) a b n

-- what a rule between two elements says is what is drawn
abbrev pub IsDrawnValue : Sketch → Rule → Type 0
IsDrawnValue s (Distance u v len) = IsDrawnApart (drawn_as s u) (drawn_as s v) (unsigned_abs len.0)
IsDrawnValue s (On u v) = IsLine (drawn_as s v) × IsDrawnApart (drawn_as s u) (drawn_as s v) 0
IsDrawnValue s (Tangent u v) = ⊥
IsDrawnValue s (Outside u v) = ⊥
IsDrawnValue s (Inside u v) = ⊥
IsDrawnValue s (Angle l m ratio) = IsDrawnRatio (drawn_as s l) (drawn_as s m) ratio
IsDrawnValue s (Block pins) = ⊥

-- a point or a centre stands before a line, and of two of a kind the one with the lesser number
abbrev pub StandsBefore : Sketch → Elem → Elem → Type 0
StandsBefore s x y =
    ((is_line (drawn_as s x) ≡ false) × (is_line (drawn_as s y) ≡ true))
    ⊎ ((is_line (drawn_as s x) ≡ is_line (drawn_as s y)) × (x.0 < y.0))

-- the rule names the two, in this order
abbrev pub Joins : Elem → Elem → Rule → Type 0
Joins x y (Distance u v len) = (u ≡ x) × (v ≡ y)
Joins x y (On u v) = (u ≡ x) × (v ≡ y)
Joins x y (Tangent u v) = (u ≡ x) × (v ≡ y)
Joins x y (Outside u v) = (u ≡ x) × (v ≡ y)
Joins x y (Inside u v) = (u ≡ x) × (v ≡ y)
Joins x y (Angle l m ratio) = (l ≡ x) × (m ≡ y)
Joins x y (Block pins) = ⊥

-- the rule is sound, and says of the two, in their order, what is drawn
pub record IsDrawnRule (s : Sketch) (u v : Elem) (rule : Rule) : Type 0 where
  pub first : Elem
  pub second : Elem
  pub these : ((first ≡ u) × (second ≡ v)) ⊎ ((first ≡ v) × (second ≡ u))
  pub before : StandsBefore s first second
  pub joins : Joins first second rule
  pub sound : IsSoundRule s rule
  pub drawn : IsDrawnValue s rule
