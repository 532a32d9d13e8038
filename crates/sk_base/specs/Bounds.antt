-- Bounds of numbers.
use Rattle.std.specs.Prelude.{ℕ, ℤ, pos, neg_ℤ, ◌≤ℤ◌}
use Rattle.sk_base.specs.declared.measure.Um.{Um}

-- at most so much in absolute value
abbrev pub IsWithin : ℕ → ℤ → Type 0
IsWithin most z = (neg_ℤ (pos most) ≤ℤ z) × (z ≤ℤ pos most)

-- from the one to the other, both included
abbrev pub IsFromTo : ℕ → ℕ → ℤ → Type 0
IsFromTo least most z = (pos least ≤ℤ z) × (z ≤ℤ pos most)

-- a drawn coordinate, at most 1,000,000 millimetres in absolute value
abbrev pub IsCoordinate : Um → Type 0
IsCoordinate um = IsWithin 1000000000 um.0
