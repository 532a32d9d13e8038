use Rattle.std.proofs.Common.{map, take}
use Rattle.sk_base.specs.declared.Constraint.{Constraint}
use Rattle.sk_answers.specs.MeasureReport.{measured_line}
use Rattle.sk_answers.specs.OffsThere.{AreOffsPut}
use Rattle.sk_answers.proofs.measure.each_off.Given as goal

-- the lines so far
abbrev pub invariant-loop-constraint : goal.invariant-loop-constraint
invariant-loop-constraint l = AreOffsPut (measured_line l.s) l.s l.at (map (λ (c : Constraint). c.number) (take l.constraint-index l.s.constraints)) l.text
