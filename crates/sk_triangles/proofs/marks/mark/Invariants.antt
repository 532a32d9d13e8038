use Rattle.std.proofs.Common.{◌≡◌, ◌+◌, ◌-◌, length, ℕ}
use Rattle.std.specs.Prelude.{slice_get, Some, true, ◌↔◌}
use Rattle.sk_triangles.proofs.marks.mark.Given as goal

abbrev pub invariant-loop-marks : goal.invariant-loop-marks
invariant-loop-marks l = (n : ℕ) → (slice_get l.marks.items n ≡ Some true) ↔ (slice_get l.fn.marks.items n ≡ Some true)

abbrev pub decreases-loop-marks : goal.decreases-loop-marks
decreases-loop-marks l = l.at + 1 - length l.marks.items
