use Rattle.std.proofs.Common.{◌≡◌, ◌++◌, take, map}
use Rattle.sk_lines.specs.Lines.{ended_lines}
use Rattle.sk_entry.specs.CanonicalLines.{constraint_line}
use Rattle.sk_lang.proofs.write.put_constraints.Given as goal

abbrev pub invariant-loop-constraint : goal.invariant-loop-constraint
invariant-loop-constraint l = l.text ≡ l.initial.text ++ ended_lines (map (constraint_line l.s) (take l.constraint-index l.s.constraints))
