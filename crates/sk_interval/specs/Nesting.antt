-- Intervals on a finer grid, of k further digits, inside those on a coarser one.
use Rattle.std.specs.Prelude.{ℕ, ℤ, pos, ◌+◌, ◌*ℤ◌, ◌≤ℤ◌, ◌^◌, ◌≡◌, Result, Ok, Err}
use Rattle.sk_interval.specs.declared.interval.Cause.{Cause}
use Rattle.sk_interval.specs.declared.interval.Cause.TheVariants.{Flat, Gap, Range}
use Rattle.sk_interval.specs.Interval.{Interval}

-- the interval on the finer grid lies inside that on the coarser one
pub record IsInside (k : ℕ) (fine coarse : Interval) : Type 0 where
  pub from : (coarse.lo *ℤ pos (2 ^ k)) ≤ℤ fine.lo
  pub ordered : fine.lo ≤ℤ fine.hi
  pub to : fine.hi ≤ℤ (coarse.hi *ℤ pos (2 ^ k))

-- more digits take back neither an interval nor a gap: an interval holds one inside it, and a gap stays a gap
abbrev pub Refines : ℕ → Result Interval Cause → Result Interval Cause → Type 0
Refines k fine (Ok coarse) = (x : Interval) × (fine ≡ Ok x) × IsInside k x coarse
Refines k fine (Err (Gap lo hi)) = (l : ℤ) × (h : ℤ) × (fine ≡ Err (Gap l h))
Refines k fine (Err (Flat lo hi)) = Unit {0}
Refines k fine (Err Range) = Unit {0}

-- on every finer grid, the operation on intervals inside v and w refines the answer
abbrev pub IsRefinedInside : (ℕ → Interval → Interval → Result Interval Cause) → ℕ → Interval → Interval → Result Interval Cause → Type 0
IsRefinedInside operation F v w answer = (k : ℕ) (x y : Interval) → IsInside k x v → IsInside k y w → Refines k (operation (F + k) x y) answer

-- the same for an operation on one interval
abbrev pub IsRefinedInsideOne : (ℕ → Interval → Result Interval Cause) → ℕ → Interval → Result Interval Cause → Type 0
IsRefinedInsideOne operation F v answer = (k : ℕ) (x : Interval) → IsInside k x v → Refines k (operation (F + k) x) answer

-- on every finer grid, the number has an interval inside this one
abbrev pub HoldsFiner : (ℕ → ℤ → Interval) → ℕ → ℤ → Interval → Type 0
HoldsFiner number F n coarse = (k : ℕ) → IsInside k (number (F + k) n) coarse
