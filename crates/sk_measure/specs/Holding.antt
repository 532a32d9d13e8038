-- When a line's normal, what a constraint measures, or a block holds within a tolerance.
use Rattle.std.specs.Prelude.{ℕ, pos, ◌≤◌, ◌<◌, ◌<ℤ◌, ◌+◌, ◌-◌, ◌*◌, unsigned_abs}
use Rattle.sk_base.specs.declared.Measure.{Measure}
use Rattle.sk_base.specs.declared.Measure.TheVariants.{PointPoint, PointLine, LineLine}
use Rattle.sk_base.specs.declared.At.{At}
use Rattle.sk_base.specs.declared.At.TheVariants.{Point, Line}
use Rattle.sk_base.specs.declared.Pin.{Pin}
use Rattle.sk_base.specs.Places.{IsPoint, IsLine}
use Rattle.sk_root.specs.Roots.{floor_root, ceil_root}
use Rattle.sk_measure.specs.Offsets.{billion, signed, distance_squared, height_above, height_excess, height_offset, normal_offset, angle_excess, angle_offset, angle_unit}

-- a distance of that square is from shortest - t, or 0, to longest + t
pub record IsLength (shortest longest square t : ℕ) : Type 0 where
  pub not_shorter : (shortest - t) * (shortest - t) ≤ square
  pub not_longer : square ≤ (longest + t) * (longest + t)

-- the offset is at most n units
abbrev pub IsOffset : ℕ → ℕ → ℕ → Type 0
IsOffset unit offset n = offset ≤ n * unit

-- the normal of the line has length one, within w; a point has none
abbrev pub IsNormal : At → ℕ → Type 0
IsNormal (Point x y) w = ⊥
IsNormal (Line a b c) w = IsOffset billion (normal_offset a b) w

-- the two places are as the measure asks: so far apart within t, so high within t, so turned within w
abbrev pub IsMet : Measure → At → At → ℕ → Type 0
IsMet (PointPoint len) (Point x y) (Point z u) t = IsLength (1000 * unsigned_abs len.0) (1000 * unsigned_abs len.0) (distance_squared x y z u) t
IsMet (PointLine len side) (Point x y) (Line a b c) t = IsOffset billion (height_offset len.0 side (height_above x y a b c)) t
IsMet (LineLine ratio sense) (Line a b c) (Line d e f) w = IsOffset (angle_unit ratio) (angle_offset ratio a b d e) w
IsMet _ _ _ n = ⊥

-- the two places give less than the measure asks: they are nearer, not so high on its side, or not so far round in its sense
abbrev pub FallsShort : Measure → At → At → Type 0
FallsShort (PointPoint len) (Point x y) (Point z u) = distance_squared x y z u < (1000 * unsigned_abs len.0) * (1000 * unsigned_abs len.0)
FallsShort (PointLine len side) (Point x y) (Line a b c) = height_excess len.0 side (height_above x y a b c) <ℤ pos 0
FallsShort (LineLine ratio sense) (Line a b c) (Line d e f) = signed sense (angle_excess ratio a b d e) <ℤ pos 0
FallsShort _ _ _ = ⊥

-- the places are of the kinds that the measure is between
abbrev pub FitsKinds : Measure → At → At → Type 0
FitsKinds (PointPoint len) u v = IsPoint u × IsPoint v
FitsKinds (PointLine len side) u v = IsPoint u × IsLine v
FitsKinds (LineLine ratio sense) u v = IsLine u × IsLine v

-- the one of the two tolerances that the measure has: t for lengths and heights, w for angles
abbrev pub tolerance_of : Measure → ℕ → ℕ → ℕ
tolerance_of (PointPoint len) t w = t
tolerance_of (PointLine len side) t w = t
tolerance_of (LineLine ratio sense) t w = w

-- the square of the distance of two pins' given places, in nanometres
abbrev pub given_squared : Pin → Pin → ℕ
given_squared a b = 1000000 * distance_squared a.x.0 a.y.0 b.x.0 b.y.0

-- the two places are as far apart as those of the pins are given, within t: that distance is its root, rounded down where
-- it bounds from below, and up where it bounds from above
abbrev pub AreAsGiven : Pin → Pin → At → At → ℕ → Type 0
AreAsGiven a b (Point x y) (Point z u) t = IsLength (floor_root (given_squared a b)) (ceil_root (given_squared a b)) (distance_squared x y z u) t
AreAsGiven a b _ _ t = ⊥
