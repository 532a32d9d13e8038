use Rattle.std.proofs.Common.{◌≡◌, filter, take}
use Rattle.sk_base.specs.declared.Constraint.{Constraint}
use Rattle.sk_excess.specs.LeftOut.{is_kept}
use Rattle.sk_excess.proofs.kept.kept_constraints.Given as goal

abbrev pub invariant-loop-constraint : goal.invariant-loop-constraint
invariant-loop-constraint l = l.kept ≡ filter (λ (c : Constraint). is_kept l.left c.number) (take l.constraint-index l.constraints)
