-- When a call answers that it failed.
use Rattle.std.specs.Prelude.{ℕ, ◌+◌, ◌<◌, ◌≤◌, min}
use Rattle.sk_io.specs.declared.fault.TheConstants.{LAST_COUNT}

-- the count of faults has risen, or stands at its last value
abbrev pub Rose : ℕ → ℕ → Type 0
Rose before now = min (before + 1) LAST_COUNT ≤ now

-- the count doesn't fall, and a fault is answered exactly where it rose; one may be where it stands at its last value
pub record AnswersFault (answered : Type 0) (before now : ℕ) : Type 0 where
  pub later : before ≤ now
  pub caused : answered → Rose before now
  pub told : before < now → answered
