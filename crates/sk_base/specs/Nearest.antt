-- Quotients of whole numbers, rounded to the nearest.
use Rattle.std.specs.Prelude.{ℕ, ◌+◌, ◌*◌, ◌/◌, ◌<◌, ◌≤◌, ℤ, pos, neg_ℤ, ◌-ℤ◌, ◌*ℤ◌, unsigned_abs, int_lt, if◌then◌else◌}

-- m / d, to the nearest whole number, halves up
abbrev pub nearest_size : ℕ → ℕ → ℕ
nearest_size d m = (m + d / 2) / d

-- n / d, to the nearest whole number, halves away from zero
abbrev pub nearest : ℕ → ℤ → ℤ
nearest d n = if int_lt n (pos 0) then neg_ℤ (pos (nearest_size d (unsigned_abs n))) else pos (nearest_size d (unsigned_abs n))

-- r is no more than a half away from n / d, and where a half is left, r is the one further from zero
pub record IsNearest (d : ℕ) (n r : ℤ) : Type 0 where
  pub near : 2 * unsigned_abs ((r *ℤ pos d) -ℤ n) ≤ d
  pub away : 2 * unsigned_abs n < d * (2 * unsigned_abs r + 1)
