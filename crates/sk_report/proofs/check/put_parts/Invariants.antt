use Rattle.std.proofs.Common.{◌≡◌, ◌+◌, ◌++◌, drop}
use Rattle.sk_report.specs.CheckReport.{part_lines}
use Rattle.sk_report.proofs.check.put_parts.Given as goal

abbrev pub invariant-loop-i : goal.invariant-loop-i
invariant-loop-i l = l.text ++ part_lines l.s (l.i + 1) (drop l.i l.parts) ≡ l.fn.text ++ part_lines l.s 1 l.parts
