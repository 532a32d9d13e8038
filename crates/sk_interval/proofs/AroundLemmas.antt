-- Intervals around quotients by one divisor.
use Rattle.std.proofs.Common.{◌≢◌, ℕ, zero, suc, ◌+◌, ◌*◌, ◌≤◌, ◌<◌, ◌^◌, ℤ, pos, neg_ℤ, ◌*ℤ◌, ◌≤ℤ◌, unsigned_abs, arith}
use Rattle.std.proofs.lemmas.Int.{ints, unsigned_abs-mul}
use Rattle.std.proofs.lemmas.Nat.{mul-le, pow-add}
use Rattle.sk_interval.specs.Interval.{Interval, one, IsInterval}
use Rattle.sk_interval.specs.Rounding.{floor_of, ceil_of}
use Rattle.sk_interval.specs.Operations.{of_micrometres, whole}
use lib.Signed.{≤ℤ_refl}
use native.Mathlib.Nat.{le_refl}
use Rattle.sk_interval.proofs.PowerLemmas.{power_from_8}
use Rattle.sk_interval.proofs.QuotientLemmas.{floor-at_most, at_most-floor, ceil-at_least, at_least-ceil, unscaled, neg-product}

pub pos-nonzero : (d : ℕ) → 0 < d → pos d ≢ pos 0
pos-nonzero d h e = omega (arith, ints, e)

-- the size of a number, as two bounds
pub size_of_bounds : (z : ℤ) (m : ℕ) → neg_ℤ (pos m) ≤ℤ z → z ≤ℤ pos m → unsigned_abs z ≤ m
size_of_bounds z m low high = omega (arith, ints)

pub bounds_of_size : (z : ℤ) (m : ℕ) → unsigned_abs z ≤ m → (neg_ℤ (pos m) ≤ℤ z) × (z ≤ℤ pos m)
bounds_of_size z m h = (omega (arith, ints), omega (arith, ints))

-- the floor of n and the ceiling of m by d, for n ≤ m
pub floor_below_ceil : (n m : ℤ) (d : ℕ) → 0 < d → n ≤ℤ m → floor_of n (pos d) ≤ℤ ceil_of m (pos d)
floor_below_ceil n m zero h le = absurd (omega arith)
floor_below_ceil n m (suc d) h le =
    let low = floor-at_most n (pos (suc d)) (pos-nonzero (suc d) h) in
    let high = ceil-at_least m (pos (suc d)) (pos-nonzero (suc d) h) in
    unscaled _ _ d (omega (arith, ints))

pub floor_from : (n : ℤ) (d limit : ℕ) → 0 < d → unsigned_abs n ≤ limit * d → neg_ℤ (pos limit) ≤ℤ floor_of n (pos d)
floor_from n d limit h small = at_most-floor (neg_ℤ (pos limit)) n (pos d) (pos-nonzero d h) (rw neg-product (omega (arith, ints)))

pub ceil_to : (m : ℤ) (d limit : ℕ) → 0 < d → unsigned_abs m ≤ limit * d → ceil_of m (pos d) ≤ℤ pos limit
ceil_to m d limit h small = at_least-ceil (pos limit) m (pos d) (pos-nonzero d h) (omega (arith, ints))

-- quotients within a limit make an interval within it
pub record IsBounded (limit : ℕ) (x : Interval) : Type 0 where
  pub ordered : x.lo ≤ℤ x.hi
  pub lo_within : unsigned_abs x.lo ≤ limit
  pub hi_within : unsigned_abs x.hi ≤ limit

pub quotients_bounded : (n m : ℤ) (d limit : ℕ) → 0 < d → n ≤ℤ m → unsigned_abs n ≤ limit * d → unsigned_abs m ≤ limit * d
    → IsBounded limit (record { lo = floor_of n (pos d); hi = ceil_of m (pos d) })
quotients_bounded n m d limit h le low high =
    let from = floor_from n d limit h low in
    let to = ceil_to m d limit h high in
    let order = floor_below_ceil n m d h le in
    record { ordered = order; lo_within = size_of_bounds _ limit from (omega (arith, ints)); hi_within = size_of_bounds _ limit (omega (arith, ints)) to }

-- ---- lengths and whole numbers

pub micrometres_are_interval : (F : ℕ) (v : ℤ) → 8 ≤ F → unsigned_abs v ≤ 2000000000 → IsInterval F (of_micrometres F v)
micrometres_are_interval F v h small =
    let unit = power_from_8 F h in
    let n : ℤ = v *ℤ pos (one F) in
    let size : unsigned_abs n ≤ 2 ^ (50 + F) * 1000 =
    rw unsigned_abs-mul (omega (arith, pow-add 2 50 F, mul-le (unsigned_abs v) (2 ^ F) 2000000000 (2 ^ F) small (le_refl _))) in
    let b = quotients_bounded n n 1000 (2 ^ (50 + F)) (omega arith) (omega (arith, ints)) size size in
    record { ordered = b.ordered; lo_within = b.lo_within; hi_within = b.hi_within }

pub whole_is_interval : (F : ℕ) (n : ℤ) → unsigned_abs n ≤ 2 ^ 40 → IsInterval F (whole F n)
whole_is_interval F n small =
    let size : unsigned_abs (n *ℤ pos (one F)) ≤ 2 ^ (50 + F) =
    rw unsigned_abs-mul (omega (arith, pow-add 2 50 F, mul-le (unsigned_abs n) (2 ^ F) (2 ^ 40) (2 ^ F) small (le_refl _))) in
    record { ordered = ≤ℤ_refl _; lo_within = size; hi_within = size }
