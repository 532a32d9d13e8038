-- The signs of placed elements: -1, 0 or 1. A placed line `a·x + b·y = c` has the normal (a, b) and the
-- direction (b, −a), and its left side is where `a·x + b·y` is above c.
use Rattle.std.specs.Prelude.{zero, suc, ℤ, pos, negsuc, neg_ℤ, ◌-ℤ◌, ◌*ℤ◌}
use Rattle.sk_base.specs.declared.measure.Ratio.{Ratio}
use Rattle.sk_base.specs.declared.placed.At.{At}
use Rattle.sk_base.specs.declared.placed.At.TheVariants.{Point, Line}
use Rattle.sk_orient.specs.declared.vector.Vector.{Vector}
use Rattle.sk_orient.specs.Vectors.{way, cross, dot, rotation}

abbrev pub spot_of : At → Vector
spot_of (Point x y) = record { x = x; y = y }
spot_of (Line a b c) = record { x = pos 0; y = pos 0 }

abbrev pub normal_of : At → Vector
normal_of (Point x y) = record { x = pos 0; y = pos 0 }
normal_of (Line a b c) = record { x = a; y = b }

abbrev pub heading_of : At → Vector
heading_of (Point x y) = record { x = pos 0; y = pos 0 }
heading_of (Line a b c) = record { x = b; y = neg_ℤ a }

abbrev pub offset_of : At → ℤ
offset_of (Point x y) = pos 0
offset_of (Line a b c) = c

abbrev pub placed_sign : ℤ → ℤ
placed_sign (pos zero) = pos 0
placed_sign (pos (suc n)) = pos 1
placed_sign (negsuc n) = negsuc 0

-- how far the point lies to the left of the line: `a·x + b·y − 10^9·c`
abbrev pub height : At → At → ℤ
height line p = dot (normal_of line) (spot_of p) -ℤ (pos 1000000000 *ℤ offset_of line)

-- 1 where the point lies to the left of the line
abbrev pub side_placed : At → At → ℤ
side_placed line p = placed_sign (height line p)

-- the sense of the angle from the one line to the other
abbrev pub sense_placed : At → At → Ratio → ℤ
sense_placed l m ratio = placed_sign (rotation (normal_of l) (normal_of m) ratio)

-- 1 where the three points go round to the left
abbrev pub turn_placed : At → At → At → ℤ
turn_placed p q r = placed_sign (cross (way (spot_of p) (spot_of q)) (way (spot_of p) (spot_of r)))

-- 1 where the way from p to q goes forward along the line
abbrev pub advance_placed : At → At → At → ℤ
advance_placed line p q = placed_sign (dot (heading_of line) (way (spot_of p) (spot_of q)))
