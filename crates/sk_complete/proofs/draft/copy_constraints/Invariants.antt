use Rattle.std.proofs.Common.{◌≡◌, take}
use Rattle.sk_complete.proofs.draft.copy_constraints.Given as goal

abbrev pub invariant-loop-constraint : goal.invariant-loop-constraint
invariant-loop-constraint l = l.copy ≡ take l.constraint-index l.constraints
