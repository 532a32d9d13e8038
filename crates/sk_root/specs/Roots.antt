-- Whole square roots.
use Rattle.std.specs.Prelude.{ℕ, zero, suc, ◌+◌, ◌*◌, ◌≤◌, nat_le, ◌==◌, if◌then◌else◌}

-- r is the greatest number whose square is at most n
pub record IsGreatestBelow (n r : ℕ) : Type 0 where
  pub square : r * r ≤ n
  pub greatest : (s : ℕ) → s * s ≤ n → s ≤ r

-- r is the least number whose square is at least n
pub record IsLeastAbove (n r : ℕ) : Type 0 where
  pub square : n ≤ r * r
  pub least : (s : ℕ) → n ≤ s * s → r ≤ s

-- the root rounded down: from one number to the next it rises by one at a square, and else stays
unfoldable pub floor_root : ℕ → ℕ
floor_root zero = 0
floor_root (suc n) = let r = floor_root n in if nat_le ((r + 1) * (r + 1)) (suc n) then r + 1 else r

-- the root rounded up: one more than that rounded down, but for squares
unfoldable pub ceil_root : ℕ → ℕ
ceil_root n = let r = floor_root n in if r * r == n then r else r + 1
