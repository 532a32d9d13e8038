-- Each read of a source but the last gave bytes.
use Rattle.std.specs.Prelude.{◌≡◌, ◌⊎◌, ℕ, zero, suc}

-- the second is the first after so many reads that gave bytes
abbrev pub AfterReads : {X : Type 0} → (X → X → Type 0) → ℕ → X → X → Type 0
AfterReads on zero old new = new ≡ old
AfterReads {X = X} on (suc count) old new = (between : X) × AfterReads on count old between × on between new

-- each read but the last gave bytes, so no read follows one that failed or gave nothing
pub record StopsAtEnd {X : Type 0} (on last : X → X → Type 0) (old new : X) : Type 0 where
  pub count : ℕ
  pub between : X
  pub given : AfterReads on count old between
  pub ended : (new ≡ between) ⊎ last between new
