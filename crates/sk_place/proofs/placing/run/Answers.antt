use Rattle.std.proofs.Common.{List as Items, ◌≡◌, ◌<◌, ℕ, length, ap, get_or, ◌∙◌, sym, subst}
use Rattle.std.proofs.lemmas.List.{get_or_default}
use Rattle.sk_base.proofs.Results.{err_is}
use Rattle.sk_tree.specs.declared.PlanStep.{PlanStep}
use Rattle.sk_place.proofs.Afters.{at_start, can_join, at_next}
use Rattle.sk_place.proofs.placing.run.Given.{Over}
use Rattle.sk_place.proofs.Failing.{failed_run}
use Rattle.sk_place.proofs.placing.run.Goals as goal

pub loop-step-init : goal.loop-step-init
loop-step-init g c = at_start c.args.placing g.G.Grid.BITS c.args.g.now c.args.plan.now c.requires.sound c.requires.legal c.in_ok-live.live c.in_ok-live.ensures

at_place : (steps items : Items PlanStep) (i : ℕ) (d : PlanStep) → items ≡ steps → i < length items → get_or steps i (get_or items i d) ≡ get_or items i d
at_place steps items i d same inside = ap (λ (ss : Items PlanStep). get_or ss i (get_or items i d)) (sym same) ∙ get_or_default items i (get_or items i d) d inside

inside : (g : Over) (c : goal.After-live-in-loop-step-1 g) → c.loop-step.step-index < length c.args.plan.now.steps
inside g c = subst (λ (ss : Items PlanStep). c.loop-step.step-index < length ss) c.as_slice-step-items.ensures c.loop-step-test.true

pub stepped-requires-clause-possible : goal.stepped-requires-clause-possible
stepped-requires-clause-possible g c =
    rw c.as_slice-step-items.ensures
    (can_join c.args.placing g.G.Grid.BITS c.args.g.now c.args.plan.now c.requires.sound c.requires.legal c.loop-step.step-index c.loop-step.live c.loop-step.invariant
    (inside g c) (get_or c.args.plan.now.steps c.loop-step.step-index _) (get_or_default c.args.plan.now.steps c.loop-step.step-index _ _ (inside g c)))

pub loop-step-preserved : goal.loop-step-preserved
loop-step-preserved g c =
    let inside = subst (λ (ss : Items PlanStep). c.loop-step.step-index < length ss) c.as_slice-step-items.ensures c.loop-step-test.true in
    let made = rw c.as_slice-step-items.ensures at c.in_ok-boxes.ensures.value in
    let others = rw c.as_slice-step-items.ensures at c.in_ok-boxes.ensures.others in
    rw c.in_ok-push.ensures
    (at_next c.args.placing g.G.Grid.BITS c.args.g.now c.args.plan.now c.requires.sound c.requires.legal c.loop-step.step-index c.loop-step.live c.loop-step.invariant
    inside (get_or c.args.plan.now.steps c.loop-step.step-index _) (get_or_default c.args.plan.now.steps c.loop-step.step-index _ _ inside)
    made.one made.two made.three made.are c.in_ok-boxes.boxes made.is c.stepped.new.live c.in_ok-boxes.ensures.slots others)

pub returns-in_err-boxes : goal.returns-in_err-boxes
returns-in_err-boxes g c =
    let inside = subst (λ (ss : Items PlanStep). c.loop-step.step-index < length ss) c.as_slice-step-items.ensures c.loop-step-test.true in
    rw (err_is c.from_residual-in_err-boxes.result c.in_err-boxes.field-0.0 c.from_residual-in_err-boxes.ensures)
    (failed_run c.args.placing g.G.Grid.BITS c.args.g.now c.args.plan.now c.requires.sound c.requires.legal c.loop-step.step-index c.loop-step.live c.loop-step.invariant
    inside _ (at_place c.args.plan.now.steps c.as_slice-step-items.result.now c.loop-step.step-index _ c.as_slice-step-items.ensures c.loop-step-test.true)
    c.in_err-boxes.field-0.0 c.in_err-boxes.ensures.value)
