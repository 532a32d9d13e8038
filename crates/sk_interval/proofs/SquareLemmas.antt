-- Roots of intervals make intervals.
use Rattle.std.proofs.Common.{inl, inr, ℕ, ◌+◌, ◌*◌, ◌≤◌, ◌^◌, pos, ◌<ℤ◌, unsigned_abs, arith}
use Rattle.std.proofs.lemmas.Bool.{cases_lt}
use Rattle.std.proofs.lemmas.Int.{ints}
use Rattle.std.proofs.lemmas.Nat.{mul-le}
use native.Mathlib.Nat.{le_refl}
use Rattle.sk_root.specs.Roots.{floor_root, ceil_root}
use Rattle.sk_root.proofs.RootLemmas.{floor_root-bounds, ceil_root-least}
use Rattle.sk_interval.specs.Interval.{Interval, one, IsInterval}
use Rattle.sk_interval.proofs.PowerLemmas.{power_below}

-- a number is at most another where its square is
pub below_of_squares : (r s : ℕ) → r * r ≤ s * s → r ≤ s
below_of_squares r s h = elim (cases_lt s r) [
  | inl lt ↦ absurd (omega (arith, mul-le (s + 1) (s + 1) r r (omega arith) (omega arith)))
  | inr le ↦ le
]

pub floor_root_below_ceil_root : (m n : ℕ) → m ≤ n → floor_root m ≤ ceil_root n
floor_root_below_ceil_root m n h =
    let low = floor_root-bounds m in
    let high = ceil_root-least n in
    below_of_squares (floor_root m) (ceil_root n) (omega arith)

pub roots_are_interval : (F : ℕ) (x : Interval) → IsInterval F x → pos 0 <ℤ x.lo
    → IsInterval F (record { lo = pos (floor_root (unsigned_abs x.lo * one F)); hi = pos (ceil_root (unsigned_abs x.hi * one F)) })
roots_are_interval F x is positive =
    let limit : ℕ = 2 ^ (50 + F) in
    let unit = power_below F (50 + F) (omega arith) in
    let order = mul-le (unsigned_abs x.lo) (one F) (unsigned_abs x.hi) (one F) (omega (arith, ints, is.ordered)) (le_refl _) in
    let low = mul-le (unsigned_abs x.lo) (one F) (2 ^ (50 + F)) (2 ^ (50 + F)) is.lo_within unit in
    let high = mul-le (unsigned_abs x.hi) (one F) (2 ^ (50 + F)) (2 ^ (50 + F)) is.hi_within unit in
    let root = floor_root-bounds (unsigned_abs x.lo * one F) in
    let lo : floor_root (unsigned_abs x.lo * one F) ≤ 2 ^ (50 + F) = below_of_squares _ _ (omega arith) in
    let hi : ceil_root (unsigned_abs x.hi * one F) ≤ 2 ^ (50 + F) = (ceil_root-least (unsigned_abs x.hi * one F)).1 (2 ^ (50 + F)) high in
    let ends = floor_root_below_ceil_root (unsigned_abs x.lo * one F) (unsigned_abs x.hi * one F) order in
    record { ordered = omega (arith, ints); lo_within = lo; hi_within = hi }
