use Rattle.std.proofs.Common.{List, get_or, subst, arith}
use Rattle.std.proofs.lemmas.List.{take_all}
use Rattle.std.proofs.lemmas.List.Elements.{Contains-get_or}
use Rattle.sk_tree.specs.declared.PlanStep.{PlanStep}
use Rattle.sk_tolerance.specs.Turns.{AllAsDrawn, signs_of_step, signs_of_steps}
use Rattle.sk_tolerance.proofs.Comparisons.{as_drawn_more, turned_there, any_step}
use Rattle.sk_tolerance.proofs.turned.turned_step.Goals as goal

pub turned_choice-requires-clause-corners : goal.turned_choice-requires-clause-corners
turned_choice-requires-clause-corners c = c.requires.corners (get_or c.args.steps.now c.loop-step.step-index any_step) (Contains-get_or c.args.steps.now c.loop-step.step-index any_step (omega arith))

pub returns-in-Some : goal.returns-in-Some
returns-in-Some c =
    turned_there (signs_of_step c.args.wanted c.args.s.now c.args.p.now) c.args.steps.now c.loop-step.step-index any_step (omega arith) c.in-Some.turned c.loop-step.invariant c.in-Some.ensures

pub loop-step-preserved : goal.loop-step-preserved
loop-step-preserved c =
    as_drawn_more (signs_of_step c.args.wanted c.args.s.now c.args.p.now) c.args.steps.now c.loop-step.step-index any_step (omega arith) c.loop-step.invariant c.in_default.ensures

pub returns : goal.returns
returns c = subst (λ (xs : List PlanStep). AllAsDrawn (signs_of_steps c.args.wanted c.args.s.now c.args.p.now xs)) (take_all c.loop-step.step-index c.args.steps.now (omega arith)) c.loop-step.invariant
