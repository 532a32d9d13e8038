use Rattle.sk_tolerance.specs.Turns.{constraint_signs}
use Rattle.sk_tolerance.specs.Telling.{IsCompared}
use Rattle.sk_tolerance.proofs.Comparisons.{none_exactly, some_first}
use Rattle.sk_tolerance.proofs.turned.first_turned_constraint.Goals as goal

compared : (c : goal.After-turned_constraint) → IsCompared (constraint_signs c.args.s.now c.args.p.now c.args.s.now.constraints) c.turned_constraint.result
compared c = rw c.as_slice.ensures at c.turned_constraint.ensures

pub returns-clause-none : goal.returns-clause-none
returns-clause-none c = none_exactly (constraint_signs c.args.s.now c.args.p.now c.args.s.now.constraints) c.turned_constraint.result (compared c)

pub returns-clause-some : goal.returns-clause-some
returns-clause-some c = some_first (constraint_signs c.args.s.now c.args.p.now c.args.s.now.constraints) c.turned_constraint.result (compared c)
