-- Intervals on the grid of F binary digits, whose whole number n stands for n / 2 ^ F.
use Rattle.std.specs.Prelude.{ℕ, ℤ, ◌≤ℤ◌, ◌+◌, ◌^◌, ◌≤◌, unsigned_abs}

pub record Interval : Type 0 where
  pub lo : ℤ
  pub hi : ℤ

-- the whole number that stands for 1
abbrev pub one : ℕ → ℕ
one F = 2 ^ F

-- the ends are in order, and neither passes 2 ^ 50 in value
pub record IsInterval (F : ℕ) (x : Interval) : Type 0 where
  pub ordered : x.lo ≤ℤ x.hi
  pub lo_within : unsigned_abs x.lo ≤ 2 ^ (50 + F)
  pub hi_within : unsigned_abs x.hi ≤ 2 ^ (50 + F)
