use Rattle.std.proofs.Common.{◌≡◌, ◌++◌, take}
use Rattle.sk_report.specs.ExcessReport.{left_lines}
use Rattle.sk_report.proofs.excess.put_left.Given as goal

-- the lines so far
abbrev pub invariant-loop-number : goal.invariant-loop-number
invariant-loop-number l = l.text ≡ l.initial.text ++ left_lines l.s (take l.number-index l.left)
