use Rattle.std.proofs.Common.{◌≡◌, ◌+◌, ◌-◌, length, ℕ, get_or}
use Rattle.sk_close_by_angles.proofs.classes.add_line.Given as goal

abbrev pub invariant-loop-classes : goal.invariant-loop-classes
invariant-loop-classes l = (n : ℕ) → get_or l.classes.items n 0 ≡ get_or l.fn.classes.items n 0

abbrev pub decreases-loop-classes : goal.decreases-loop-classes
decreases-loop-classes l = l.at + 1 - length l.classes.items
