-- The least interval of the grid around exact results.
use Rattle.std.specs.Prelude.{◌≡◌, ℕ, ℤ, pos, negsuc, ◌+ℤ◌, ◌-ℤ◌, ◌*ℤ◌, ◌≤ℤ◌, ◌*◌, ◌≤◌, unsigned_abs, Result}
use Rattle.sk_interval.specs.declared.interval.Cause.{Cause}
use Rattle.sk_interval.specs.Interval.{Interval, one}
use Rattle.sk_interval.specs.Operations.{bounded}

-- z is at most n / d
abbrev pub IsAtMost : ℤ → ℤ → ℤ → Type 0
IsAtMost z n (pos d) = (z *ℤ pos d) ≤ℤ n
IsAtMost z n (negsuc d) = n ≤ℤ (z *ℤ negsuc d)

-- z is at least n / d
abbrev pub IsAtLeast : ℤ → ℤ → ℤ → Type 0
IsAtLeast z n (pos d) = n ≤ℤ (z *ℤ pos d)
IsAtLeast z n (negsuc d) = (z *ℤ negsuc d) ≤ℤ n

-- z is at most the square root of n
abbrev pub IsAtMostRoot : ℤ → ℕ → Type 0
IsAtMostRoot (pos r) n = r * r ≤ n
IsAtMostRoot (negsuc r) n = Unit {0}

-- z is at least the square root of n
abbrev pub IsAtLeastRoot : ℤ → ℕ → Type 0
IsAtLeastRoot (pos r) n = n ≤ r * r
IsAtLeastRoot (negsuc r) n = ⊥

-- P holds for each pair of ends
abbrev pub EachPair : (ℤ → ℤ → Type 0) → Interval → Interval → Type 0
EachPair P x y = P x.lo y.lo × P x.lo y.hi × P x.hi y.lo × P x.hi y.hi

-- z is at most, and at least, the length of v micrometres
abbrev pub BelowLength : ℕ → ℤ → ℤ → Type 0
BelowLength F v z = IsAtMost z (v *ℤ pos (one F)) (pos 1000)

abbrev pub AboveLength : ℕ → ℤ → ℤ → Type 0
AboveLength F v z = IsAtLeast z (v *ℤ pos (one F)) (pos 1000)

-- z is at most, and at least, the exact result at each pair of ends
abbrev pub BelowSums : Interval → Interval → ℤ → Type 0
BelowSums x y z = EachPair (λ a b. z ≤ℤ (a +ℤ b)) x y

abbrev pub AboveSums : Interval → Interval → ℤ → Type 0
AboveSums x y z = EachPair (λ a b. (a +ℤ b) ≤ℤ z) x y

abbrev pub BelowDifferences : Interval → Interval → ℤ → Type 0
BelowDifferences x y z = EachPair (λ a b. z ≤ℤ (a -ℤ b)) x y

abbrev pub AboveDifferences : Interval → Interval → ℤ → Type 0
AboveDifferences x y z = EachPair (λ a b. (a -ℤ b) ≤ℤ z) x y

abbrev pub BelowProducts : ℕ → Interval → Interval → ℤ → Type 0
BelowProducts F x y z = EachPair (λ a b. IsAtMost z (a *ℤ b) (pos (one F))) x y

abbrev pub AboveProducts : ℕ → Interval → Interval → ℤ → Type 0
AboveProducts F x y z = EachPair (λ a b. IsAtLeast z (a *ℤ b) (pos (one F))) x y

abbrev pub BelowQuotients : ℕ → Interval → Interval → ℤ → Type 0
BelowQuotients F x y z = EachPair (λ a b. IsAtMost z (a *ℤ pos (one F)) b) x y

abbrev pub AboveQuotients : ℕ → Interval → Interval → ℤ → Type 0
AboveQuotients F x y z = EachPair (λ a b. IsAtLeast z (a *ℤ pos (one F)) b) x y

-- and for roots, at each end
abbrev pub BelowRoots : ℕ → Interval → ℤ → Type 0
BelowRoots F x z = IsAtMostRoot z (unsigned_abs x.lo * one F) × IsAtMostRoot z (unsigned_abs x.hi * one F)

abbrev pub AboveRoots : ℕ → Interval → ℤ → Type 0
AboveRoots F x z = IsAtLeastRoot z (unsigned_abs x.lo * one F) × IsAtLeastRoot z (unsigned_abs x.hi * one F)

-- v is the least interval around the exact results, which these bound
pub record IsLeastAround (Below Above : ℤ → Type 0) (v : Interval) : Type 0 where
  pub below : Below v.lo
  pub above : Above v.hi
  pub greatest : (z : ℤ) → Below z → z ≤ℤ v.lo
  pub least : (z : ℤ) → Above z → v.hi ≤ℤ z

-- the answer is the least interval around the exact results, or Range exactly where an end of that passes 2 ^ 50 in value
pub record GivesLeast (F : ℕ) (Below Above : ℤ → Type 0) (answer : Result Interval Cause) : Type 0 where
  pub around : Interval
  pub least : IsLeastAround Below Above around
  pub answered : answer ≡ bounded 50 F around
