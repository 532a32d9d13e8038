use Rattle.std.proofs.Common.{◌≡◌, ◌++◌, ℕ, List, take}
use Rattle.sk_cli.specs.ExcessReport.{AreExcessesTold}
use Rattle.sk_cli.proofs.excess.excesses.Given as goal

-- the head, and what is told of the parts so far
abbrev pub invariant-loop-i : goal.invariant-loop-i
invariant-loop-i l = (lines : List ℕ) × AreExcessesTold l.request l.sketch 1 (take l.i l.parts) lines × (l.text ≡ l.initial.text ++ lines)
