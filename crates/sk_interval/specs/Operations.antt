-- What each operation on intervals gives on the grid of F binary digits.
use Rattle.std.specs.Prelude.{ℕ, ℤ, pos, neg_ℤ, ◌+ℤ◌, ◌-ℤ◌, ◌*ℤ◌, ◌+◌, ◌*◌, ◌^◌, Bool, ◌&&◌, nat_le, int_lt, int_le, unsigned_abs, Result, Ok, Err, if◌then◌else◌}
use Rattle.std.specs.Int.{int_min, int_max}
use Rattle.sk_root.specs.Roots.{floor_root, ceil_root}
use Rattle.sk_interval.specs.declared.interval.Cause.{Cause}
use Rattle.sk_interval.specs.declared.interval.Cause.TheVariants.{Flat, Gap, Range}
use Rattle.sk_interval.specs.Interval.{Interval, one}
use Rattle.sk_interval.specs.Rounding.{floor_of, ceil_of}

-- the least of f at the four pairs of ends
abbrev pub least_at : (ℤ → ℤ → ℤ) → Interval → Interval → ℤ
least_at f x y = int_min (int_min (f x.lo y.lo) (f x.lo y.hi)) (int_min (f x.hi y.lo) (f x.hi y.hi))

-- the greatest of f at the four pairs of ends
abbrev pub greatest_at : (ℤ → ℤ → ℤ) → Interval → Interval → ℤ
greatest_at f x y = int_max (int_max (f x.lo y.lo) (f x.lo y.hi)) (int_max (f x.hi y.lo) (f x.hi y.hi))

-- no end is more than 2 ^ k
abbrev pub is_within : ℕ → Interval → Bool
is_within k x = nat_le (unsigned_abs x.lo) (2 ^ k) && nat_le (unsigned_abs x.hi) (2 ^ k)

-- the interval, or Range where an end passes 2 ^ k in value
abbrev pub bounded : ℕ → ℕ → Interval → Result Interval Cause
bounded k F x = if is_within (k + F) x then Ok x else Err Range

-- v micrometres, in millimetres
abbrev pub of_micrometres : ℕ → ℤ → Interval
of_micrometres F v = record { lo = floor_of (v *ℤ pos (one F)) (pos 1000); hi = ceil_of (v *ℤ pos (one F)) (pos 1000) }

abbrev pub whole : ℕ → ℤ → Interval
whole F n = record { lo = n *ℤ pos (one F); hi = n *ℤ pos (one F) }

abbrev pub negative : Interval → Interval
negative x = record { lo = neg_ℤ x.hi; hi = neg_ℤ x.lo }

abbrev pub sum : ℕ → Interval → Interval → Result Interval Cause
sum F x y = bounded 50 F (record { lo = x.lo +ℤ y.lo; hi = x.hi +ℤ y.hi })

abbrev pub difference : ℕ → Interval → Interval → Result Interval Cause
difference F x y = bounded 50 F (record { lo = x.lo -ℤ y.hi; hi = x.hi -ℤ y.lo })

abbrev pub times : ℤ → ℤ → ℤ
times a b = a *ℤ b

-- around the exact products a * b / 2 ^ F
unfoldable pub product : ℕ → Interval → Interval → Result Interval Cause
product F x y = bounded 50 F (record { lo = floor_of (least_at times x y) (pos (one F)); hi = ceil_of (greatest_at times x y) (pos (one F)) })

abbrev pub holds_zero : Interval → Bool
holds_zero x = int_le x.lo (pos 0) && int_le (pos 0) x.hi

-- around the exact quotients a * 2 ^ F / b
unfoldable pub quotient : ℕ → Interval → Interval → Result Interval Cause
quotient F x y =
    if holds_zero y then Err (Flat y.lo y.hi)
    else bounded 50 F (record { lo = least_at (λ a b. floor_of (a *ℤ pos (one F)) b) x y; hi = greatest_at (λ a b. ceil_of (a *ℤ pos (one F)) b) x y })

-- around the exact roots of a * 2 ^ F
unfoldable pub root : ℕ → Interval → Result Interval Cause
root F x =
    if int_lt (pos 0) x.lo then Ok (record { lo = pos (floor_root (unsigned_abs x.lo * one F)); hi = pos (ceil_root (unsigned_abs x.hi * one F)) })
    else (if int_lt x.hi (pos 0) then Err (Gap x.lo x.hi) else Err (Flat x.lo x.hi))

-- the midpoint, rounded down, as both ends
abbrev pub middle : Interval → Interval
middle x = record { lo = floor_of (x.lo +ℤ x.hi) (pos 2); hi = floor_of (x.lo +ℤ x.hi) (pos 2) }

-- a length, which stays within 2 ^ 40
abbrev pub length_of : ℕ → Interval → Result Interval Cause
length_of F x = bounded 40 F x

-- a part of a normal, which stays within 2
abbrev pub normal_of : ℕ → Interval → Result Interval Cause
normal_of F x = bounded 1 F x
