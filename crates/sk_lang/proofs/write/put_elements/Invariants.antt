use Rattle.std.proofs.Common.{◌≡◌, ◌++◌, take, map}
use Rattle.sk_lines.specs.Lines.{ended_lines}
use Rattle.sk_entry.specs.CanonicalLines.{element_line}
use Rattle.sk_lang.proofs.write.put_elements.Given as goal

abbrev pub invariant-loop-element : goal.invariant-loop-element
invariant-loop-element l = l.text ≡ l.initial.text ++ ended_lines (map element_line (take l.element-index l.s.elements))
