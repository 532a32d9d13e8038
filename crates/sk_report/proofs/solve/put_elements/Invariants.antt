use Rattle.std.proofs.Common.{◌≡◌, ◌++◌, take}
use Rattle.sk_report.specs.SolveReport.{element_lines}
use Rattle.sk_report.proofs.solve.put_elements.Given as goal

abbrev pub invariant-loop-element : goal.invariant-loop-element
invariant-loop-element l = l.text ≡ l.fn.text ++ element_lines l.at (take l.element-index l.elements)
