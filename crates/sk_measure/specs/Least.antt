-- The least number with which something holds.
use Rattle.std.specs.Prelude.{ℕ, ◌≤◌}

-- it holds with n, and with no lesser number
pub record IsLeast (P : ℕ → Type 0) (n : ℕ) : Type 0 where
  pub holds : P n
  pub least : (m : ℕ) → P m → n ≤ m
