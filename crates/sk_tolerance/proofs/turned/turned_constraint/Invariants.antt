use Rattle.std.specs.Prelude.{take}
use Rattle.sk_tolerance.specs.Turns.{constraint_signs, AllAsDrawn}
use Rattle.sk_tolerance.proofs.turned.turned_constraint.Given as goal

-- the signs so far are as drawn
abbrev pub invariant-loop-constraint : goal.invariant-loop-constraint
invariant-loop-constraint l = AllAsDrawn (constraint_signs l.s l.p (take l.constraint-index l.constraints))
