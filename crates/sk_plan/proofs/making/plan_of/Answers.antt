use Rattle.std.proofs.Common.{List, rules, sym, subst, ◌∙◌}
use Rattle.sk_base.proofs.Searches.{refused}
use Rattle.sk_family.specs.Clusters.{initial_clusters}
use Rattle.sk_rules.specs.declared.Taken.{Taken}
use Rattle.sk_rules.specs.Taking.{Leads}
use Rattle.sk_plan.specs.Runs.{EachTakesOnce}
use Rattle.sk_tree.specs.declared.Plan.{Plan}
use Rattle.sk_tree.specs.LegalPlan.{IsLegalPlan}
use Rattle.sk_plan.specs.Leaves.{HasLeaves}
use Rattle.sk_plan.proofs.PlanTells.{plan_sparse, plan_few_angles}
use Rattle.sk_plan.proofs.PlanTrees.{tree_leaves}
use Rattle.sk_plan.proofs.SomePlans.{not_due}
use Rattle.sk_plan.proofs.WellRuns.{sound_of, ends_well, run_told, steps_count, nodes_count}
use Rattle.sk_plan.proofs.making.plan_of.Goals as goal

pub numbers_of-requires : goal.numbers_of-requires
numbers_of-requires g c = sound_of c.args.s.now c.args.g.now c.requires.sound c.requires.graph

pub holds_what_is_due-requires-clause-sound : goal.holds_what_is_due-requires-clause-sound
holds_what_is_due-requires-clause-sound g c = sound_of c.args.s.now c.args.g.now c.requires.sound c.requires.graph

pub judgement_of-requires-clause-sound : goal.judgement_of-requires-clause-sound
judgement_of-requires-clause-sound g c = sound_of c.args.s.now c.args.g.now c.requires.sound c.requires.graph

pub returns-then-not-holds_what_is_due-clause-not_well : goal.returns-then-not-holds_what_is_due-clause-not_well
returns-then-not-holds_what_is_due-clause-not_well g c =
    not_due c.args.s.now c.args.g.now c.requires.graph c.requires.sound c.requires.some (refused c.if-not-holds_what_is_due.ensures.1) _ c.in_ok-judgement_of.ensures

pub initial-requires : goal.initial-requires
initial-requires g c = sound_of c.args.s.now c.args.g.now c.requires.sound c.requires.graph

pub judge-requires-clause-sound : goal.judge-requires-clause-sound
judge-requires-clause-sound g c = sound_of c.args.s.now c.args.g.now c.requires.sound c.requires.graph

pub steps_of-requires-clause-sound : goal.steps_of-requires-clause-sound
steps_of-requires-clause-sound g c = sound_of c.args.s.now c.args.g.now c.requires.sound c.requires.graph

pub steps_of-requires-clause-leads : goal.steps_of-requires-clause-leads
steps_of-requires-clause-leads g c =
    let well = ends_well c.args.s.now c.args.g.now c.requires.graph c.requires.some (sound_of c.args.s.now c.args.g.now c.requires.sound c.requires.graph) c.in_ok-family.family c.close_family.new.family c.in_ok-taken.taken
    c.in_ok-family.ensures.clusters c.in_ok-taken.ensures.leads c.in_ok-taken.ensures.closed c.in_ok-judgement.judgement c.in_ok-judgement.ensures.judgement c.in-Well.is in
    (c.close_family.new.family, subst (λ (ts : List Taken). Leads c.args.g.now (initial_clusters c.args.g.now) ts c.close_family.new.family) (sym c.as_slice-in-Well.ensures) well.leads, well.whole)

pub steps_of-requires-clause-once : goal.steps_of-requires-clause-once
steps_of-requires-clause-once g c =
    let well = ends_well c.args.s.now c.args.g.now c.requires.graph c.requires.some (sound_of c.args.s.now c.args.g.now c.requires.sound c.requires.graph) c.in_ok-family.family c.close_family.new.family c.in_ok-taken.taken
    c.in_ok-family.ensures.clusters c.in_ok-taken.ensures.leads c.in_ok-taken.ensures.closed c.in_ok-judgement.judgement c.in_ok-judgement.ensures.judgement c.in-Well.is in
    subst (λ (ts : List Taken). EachTakesOnce c.args.g.now (initial_clusters c.args.g.now) ts) (sym c.as_slice-in-Well.ensures) well.once

pub returns-in_ok-steps-in-Well-clause-run : goal.returns-in_ok-steps-in-Well-clause-run
returns-in_ok-steps-in-Well-clause-run g c = (
  c.close_family.new.family,
  run_told g.P.Picker.answer g.P.Picker.after c.args.g.now c.args.p.now c.close_family.new.picker c.in_ok-family.family c.close_family.new.family c.in_ok-taken.taken c.in_ok-steps-in-Well.steps
      c.in_ok-family.ensures.clusters c.in_ok-taken.ensures.run (c.in_ok-steps-in-Well.ensures.told ∙ c.as_slice-in-Well.ensures),
)

pub returns-in_ok-steps-in-Well-clause-steps : goal.returns-in_ok-steps-in-Well-clause-steps
returns-in_ok-steps-in-Well-clause-steps g c = steps_count c.args.s.now c.args.g.now c.requires.graph (sound_of c.args.s.now c.args.g.now c.requires.sound c.requires.graph) c.in_ok-steps-in-Well.steps c.in_ok-steps-in-Well.ensures.legal

pub returns-in_ok-steps-in-Well-clause-without_blocks : goal.returns-in_ok-steps-in-Well-clause-without_blocks
returns-in_ok-steps-in-Well-clause-without_blocks g c none = nodes_count c.args.s.now c.args.g.now c.requires.graph (sound_of c.args.s.now c.args.g.now c.requires.sound c.requires.graph) c.in_ok-steps-in-Well.steps c.in_ok-steps-in-Well.ensures.legal none

pub returns-in_ok-steps-in-Well-clause-legal : goal.returns-in_ok-steps-in-Well-clause-legal
returns-in_ok-steps-in-Well-clause-legal g c = record {
  leaves = c.in_ok-leaves.ensures;
  steps = c.in_ok-steps-in-Well.ensures.legal;
}

pub returns-in_ok-steps-in-Well-clause-leaves : goal.returns-in_ok-steps-in-Well-clause-leaves
returns-in_ok-steps-in-Well-clause-leaves g c t is =
    let plan : Plan = record { leaves = c.in_ok-leaves.leaves; steps = c.in_ok-steps-in-Well.steps } in
    let legal : IsLegalPlan c.args.g.now plan = returns-in_ok-steps-in-Well-clause-legal g c in
    subst (λ ks. HasLeaves t ks) legal.leaves (tree_leaves c.args.g.now plan (sound_of c.args.s.now c.args.g.now c.requires.sound c.requires.graph) legal t is)

pub returns-in_ok-steps-in-Well-clause-sparse : goal.returns-in_ok-steps-in-Well-clause-sparse
returns-in_ok-steps-in-Well-clause-sparse g c =
    let plan : Plan = record { leaves = c.in_ok-leaves.leaves; steps = c.in_ok-steps-in-Well.steps } in
    plan_sparse c.args.g.now plan (sound_of c.args.s.now c.args.g.now c.requires.sound c.requires.graph) (returns-in_ok-steps-in-Well-clause-legal g c)

pub returns-in_ok-steps-in-Well-clause-few_angles : goal.returns-in_ok-steps-in-Well-clause-few_angles
returns-in_ok-steps-in-Well-clause-few_angles g c =
    let plan : Plan = record { leaves = c.in_ok-leaves.leaves; steps = c.in_ok-steps-in-Well.steps } in
    plan_few_angles c.args.g.now plan (sound_of c.args.s.now c.args.g.now c.requires.sound c.requires.graph) (returns-in_ok-steps-in-Well-clause-legal g c)

pub returns-in-Over-clause-unasked : goal.returns-in-Over-clause-unasked
returns-in-Over-clause-unasked g c not = absurd (not (c.if-not-holds_what_is_due.ensures.0 (search rules)))
