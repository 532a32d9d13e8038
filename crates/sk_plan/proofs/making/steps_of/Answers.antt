use Rattle.std.proofs.Common.{subst, sym, arith}
use Rattle.sk_family.specs.Clusters.{Clusters}
use Rattle.sk_base.specs.declared.Graph.{Graph}
use Rattle.sk_family.proofs.GraphStarts.{starts_many}
use Rattle.sk_plan.proofs.Joined.{taken_holds}
use Rattle.sk_plan.proofs.Finished.{clusters_left}
use Rattle.sk_tree.proofs.DrawnKinds.{Draws, graph_draws}
use Rattle.sk_plan.proofs.Stepping.{IsAt, at_start, taken_here, once_here, drawn_here, at_turn, legal_end, told_end}
use Rattle.sk_plan.proofs.making.steps_of.Goals as goal

pub loop-merging-init : goal.loop-merging-init
loop-merging-init c =
    subst (λ (f : Clusters). IsAt c.args.sketch.now c.args.graph.now c.args.taken.now 0 f c.new-steps.result) (sym c.in_ok-family.ensures.clusters)
    (rw c.new-steps.ensures (at_start c.args.sketch.now c.args.graph.now c.args.taken.now c.requires.sound c.requires.leads c.requires.once))

pub plan_step-requires-clause-taken : goal.plan_step-requires-clause-taken
plan_step-requires-clause-taken c = (
  c.args.graph.now,
  taken_here c.args.sketch.now c.args.graph.now c.args.taken.now c.loop-merging.merging-index c.loop-merging.family c.loop-merging.steps c.loop-merging.invariant _ c.loop-merging-test.true,
  once_here c.args.sketch.now c.args.graph.now c.args.taken.now c.loop-merging.merging-index c.loop-merging.family c.loop-merging.steps c.loop-merging.invariant _ c.loop-merging-test.true,
)

pub plan_step-requires-clause-drawn : goal.plan_step-requires-clause-drawn
plan_step-requires-clause-drawn c =
    drawn_here c.args.sketch.now c.args.graph.now c.args.taken.now c.loop-merging.merging-index c.loop-merging.family c.loop-merging.steps c.loop-merging.invariant _ c.loop-merging-test.true
    c.requires.sound (subst (λ (g : Graph). Draws c.args.sketch.now g) (sym c.requires.graph) (graph_draws c.args.sketch.now c.requires.sketch))

pub do_merge-requires-clause-holds : goal.do_merge-requires-clause-holds
do_merge-requires-clause-holds c =
    taken_holds c.args.graph.now c.loop-merging.family _
    (taken_here c.args.sketch.now c.args.graph.now c.args.taken.now c.loop-merging.merging-index c.loop-merging.family c.loop-merging.steps c.loop-merging.invariant _ c.loop-merging-test.true)

pub do_merge-requires-clause-room : goal.do_merge-requires-clause-room
do_merge-requires-clause-room c =
    let left = clusters_left c.args.graph.now c.requires.sound c.args.taken.now c.requires.leads.0 c.requires.leads.1 c.requires.once in
    let few = c.requires.sound.few_constraints in
    let all = starts_many c.args.graph.now c.requires.sound in
    let next = c.loop-merging.invariant.next in
    let inside = c.loop-merging-test.true in
    omega arith

pub loop-merging-preserved : goal.loop-merging-preserved
loop-merging-preserved c =
    at_turn c.args.sketch.now c.args.graph.now c.args.taken.now c.loop-merging.merging-index c.loop-merging.family c.loop-merging.steps c.loop-merging.invariant _ c.loop-merging-test.true
    c.requires.sound (subst (λ (g : Graph). Draws c.args.sketch.now g) (sym c.requires.graph) (graph_draws c.args.sketch.now c.requires.sketch))
    c.plan_step.result c.plan_step.ensures.told c.plan_step.ensures.keeps c.plan_step.ensures.choice
    c.do_merge.new.family c.in_ok-do_merge.ensures.ok c.push.new.self c.in_ok-push.ensures.ok

pub returns-clause-legal : goal.returns-clause-legal
returns-clause-legal c = legal_end c.args.sketch.now c.args.graph.now c.args.taken.now c.loop-merging.merging-index c.loop-merging.family c.loop-merging.steps c.loop-merging.invariant c.loop-merging-test.false

pub returns-clause-told : goal.returns-clause-told
returns-clause-told c = told_end c.args.sketch.now c.args.graph.now c.args.taken.now c.loop-merging.merging-index c.loop-merging.family c.loop-merging.steps c.loop-merging.invariant c.loop-merging-test.false
