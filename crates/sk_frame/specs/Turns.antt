-- The turn that takes one direction to another, as two whole numbers of 30 to 31 binary digits.
use Rattle.std.specs.Prelude.{ℕ, ℤ, pos, neg_ℤ, ◌-◌, ◌*ℤ◌, ◌^◌, ◌/◌, max, unsigned_abs, int_lt, ◌&&◌, if◌then◌else◌}
use Rattle.std.specs.Int.{leading_zeros, w128}
use Rattle.std.specs.Ordering.{int_eq}
use Rattle.sk_orient.specs.declared.Vector.{Vector}
use Rattle.sk_orient.specs.Vectors.{cross, dot}

-- forward along the x axis
abbrev pub forward : Vector
forward = record { x = pos 1; y = pos 0 }

abbrev pub origin : Vector
origin = record { x = pos 0; y = pos 0 }

-- the direction; where nothing tells one, forward
abbrev pub or_forward : Vector → Vector
or_forward d = if int_eq d.x (pos 0) && int_eq d.y (pos 0) then forward else d

-- the parts of the second direction along the first, and across it to the left
abbrev pub turn_between : Vector → Vector → Vector
turn_between g d = record { x = dot g d; y = cross g d }

-- the place of the highest binary digit
abbrev pub highest_digit : ℕ → ℕ
highest_digit m = 127 - leading_zeros w128 m

-- n / d, rounded towards zero
abbrev pub toward_zero : ℕ → ℤ → ℤ
toward_zero d n = if int_lt n (pos 0) then neg_ℤ (pos (unsigned_abs n / d)) else pos (unsigned_abs n / d)

-- the number by a power of two, so that 2 ^ digit becomes 2 ^ 30
abbrev pub scaled_part : ℕ → ℤ → ℤ
scaled_part digit n = toward_zero (2 ^ digit) (n *ℤ pos (2 ^ 30))

-- both parts by the power of two with which the greater of their sizes is from 2 ^ 30 to below 2 ^ 31
abbrev pub scaled : Vector → Vector
scaled v =
    (let digit = highest_digit (max (unsigned_abs v.x) (unsigned_abs v.y)) in
    record { x = scaled_part digit v.x; y = scaled_part digit v.y })
