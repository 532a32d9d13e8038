use Rattle.std.proofs.Common.{List, subst}
use Rattle.std.specs.Prelude.{Contains, Some}
use Rattle.sk_tree.specs.declared.PlanStep.{PlanStep}
use Rattle.sk_tolerance.specs.First.{IsFirst}
use Rattle.sk_tolerance.specs.Turns.{constraint_signs, signs_of_steps, signs_wanted, AllAsDrawn, IsTurned}
use Rattle.sk_tolerance.specs.Telling.{IsCompared}
use Rattle.sk_tolerance.proofs.Firsts.{appended}
use Rattle.sk_tolerance.proofs.Comparisons.{compared_behind, none_exactly, some_first, corners_of}
use Rattle.sk_tolerance.proofs.turned.first_unlike.Goals as goal

pub turned_step-requires-clause-corners : goal.turned_step-requires-clause-corners
turned_step-requires-clause-corners c = λ step h. corners_of c.args.s.now c.requires.sketch c.args.plan.now c.requires.plan step (subst (λ (xs : List PlanStep). Contains xs step) c.as_slice-in-None.ensures h)

-- a constraint is found
found : (c : goal.In-Some) → IsFirst IsTurned (signs_wanted c.args.wanted c.args.s.now c.args.p.now c.args.plan.now) c.in-Some.turned
found c = appended IsTurned _ _ c.in-Some.turned (rw c.as_slice.ensures at c.in-Some.ensures)

pub returns-in-Some-clause-none : goal.returns-in-Some-clause-none
returns-in-Some-clause-none c = none_exactly (signs_wanted c.args.wanted c.args.s.now c.args.p.now c.args.plan.now) (Some c.in-Some.turned) (found c)

pub returns-in-Some-clause-some : goal.returns-in-Some-clause-some
returns-in-Some-clause-some c = found c

-- no constraint is found
compared : (c : goal.After-turned_step) → IsCompared (signs_wanted c.args.wanted c.args.s.now c.args.p.now c.args.plan.now) c.turned_step.result
compared c =
    let constraints : AllAsDrawn (constraint_signs c.args.s.now c.args.p.now c.args.s.now.constraints) = rw c.as_slice.ensures at c.in-None.ensures in
    compared_behind _ (signs_of_steps c.args.wanted c.args.s.now c.args.p.now c.args.plan.now.steps) c.turned_step.result constraints (rw c.as_slice-in-None.ensures at c.turned_step.ensures)

pub returns-in-None-clause-none : goal.returns-in-None-clause-none
returns-in-None-clause-none c = none_exactly (signs_wanted c.args.wanted c.args.s.now c.args.p.now c.args.plan.now) c.turned_step.result (compared c)

pub returns-in-None-clause-some : goal.returns-in-None-clause-some
returns-in-None-clause-some c = some_first (signs_wanted c.args.wanted c.args.s.now c.args.p.now c.args.plan.now) c.turned_step.result (compared c)
