-- Midpoints, rounded down.
use Rattle.std.proofs.Common.{ℕ, ◌≤◌, ◌+◌, ◌^◌, ℤ, pos, ◌+ℤ◌, ◌*ℤ◌, ◌≤ℤ◌, unsigned_abs, arith}
use Rattle.std.proofs.lemmas.Int.{ints}
use lib.Signed.{≤ℤ_refl}
use Rattle.sk_interval.specs.Interval.{Interval, IsInterval}
use Rattle.sk_interval.specs.Rounding.{floor_of}
use Rattle.sk_interval.specs.Operations.{middle}
use Rattle.sk_interval.proofs.QuotientLemmas.{floor-at_most, at_most-floor}
use Rattle.sk_interval.proofs.AroundLemmas.{pos-nonzero, floor_from, size_of_bounds}

-- the midpoint lies between the ends
pub middle-inside : (x : Interval) → x.lo ≤ℤ x.hi → (x.lo ≤ℤ (middle x).lo) × ((middle x).hi ≤ℤ x.hi)
middle-inside x ordered =
    let n : ℤ = x.lo +ℤ x.hi in
    let below : (floor_of n (pos 2) *ℤ pos 2) ≤ℤ n = floor-at_most n (pos 2) (pos-nonzero 2 (omega arith)) in
    (at_most-floor x.lo n (pos 2) (pos-nonzero 2 (omega arith)) (omega (arith, ints)), omega (arith, ints))

-- and within what both ends are within
pub middle-within : (x : Interval) (most : ℕ) → unsigned_abs x.lo ≤ most → unsigned_abs x.hi ≤ most → unsigned_abs (middle x).lo ≤ most
middle-within x most low high =
    let n : ℤ = x.lo +ℤ x.hi in
    let below : (floor_of n (pos 2) *ℤ pos 2) ≤ℤ n = floor-at_most n (pos 2) (pos-nonzero 2 (omega arith)) in
    let from = floor_from n 2 most (omega arith) (omega (arith, ints)) in
    size_of_bounds (floor_of n (pos 2)) most from (omega (arith, ints))

pub middle_is_interval : (F : ℕ) (x : Interval) → IsInterval F x → IsInterval F (middle x)
middle_is_interval F x is =
    let size = middle-within x (2 ^ (50 + F)) is.lo_within is.hi_within in
    record { ordered = ≤ℤ_refl _; lo_within = size; hi_within = size }
