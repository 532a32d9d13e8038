use Rattle.std.proofs.Common.{◌∙◌, subst, Some, None}
use Rattle.sk_base.proofs.Results.{err_is}
use Rattle.sk_place.specs.declared.settling.PlaceBy.{PlaceBy}
use Rattle.sk_place.specs.Trees.{HasBoxes}
use Rattle.sk_place.proofs.Ending.{no_tree, leaf_there, left_there, left_boxes, left_nodes, lone_nodes, lone_kept, kept_of, lone_bounded, left_bounded, last_is}
use Rattle.sk_place.proofs.InsideTrees.{nest}
use Rattle.sk_place.proofs.placing.place.Goals as goal

pub taken-requires-clause-there : goal.taken-requires-clause-there
taken-requires-clause-there g c =
    left_there c.args.placing g.G.Grid.BITS c.args.g.now c.args.plan.now c.requires.sound c.requires.legal c.in_ok-live-in-Some.live c.in_ok-live-in-Some.ensures c.in-Some.name (last_is c.args.plan.now (Some c.in-Some.name) c.in-Some.ensures)

pub returns-in_ok-lone_boxes-in-None-clause-placed : goal.returns-in_ok-lone_boxes-in-None-clause-placed
returns-in_ok-lone_boxes-in-None-clause-placed g c =
    (λ t h. absurd (no_tree c.args.g.now c.args.plan.now c.requires.legal (last_is c.args.plan.now None c.in-None.ensures) t h), λ h. c.of.ensures ∙ c.in_ok-lone_boxes-in-None.ensures)

pub returns-in_ok-lone_boxes-in-None-clause-nodes : goal.returns-in_ok-lone_boxes-in-None-clause-nodes
returns-in_ok-lone_boxes-in-None-clause-nodes g c = lone_nodes g.G.Grid.BITS c.args.g.now c.of.result (c.of.ensures ∙ c.in_ok-lone_boxes-in-None.ensures)

pub returns-in_ok-taken-in-Some-clause-placed : goal.returns-in_ok-taken-in-Some-clause-placed
returns-in_ok-taken-in-Some-clause-placed g c = (
  λ t h. rw c.of-in-Some.ensures (left_boxes c.args.placing g.G.Grid.BITS c.args.g.now c.args.plan.now c.requires.sound c.requires.legal c.in_ok-live-in-Some.live c.in_ok-live-in-Some.ensures
      c.in-Some.name (last_is c.args.plan.now (Some c.in-Some.name) c.in-Some.ensures) c.in_ok-taken-in-Some.field-0 c.in_ok-taken-in-Some.ensures.boxes t h),
  λ none. absurd (leaf_there c.args.g.now c.args.plan.now c.requires.legal c.in-Some.name (last_is c.args.plan.now (Some c.in-Some.name) c.in-Some.ensures) none),
)

pub returns-in_ok-taken-in-Some-clause-nodes : goal.returns-in_ok-taken-in-Some-clause-nodes
returns-in_ok-taken-in-Some-clause-nodes g c =
    rw c.of-in-Some.ensures
    (left_nodes c.args.placing g.G.Grid.BITS c.args.g.now c.args.plan.now c.requires.sound c.requires.legal c.in_ok-live-in-Some.live c.in_ok-live-in-Some.ensures
    c.in-Some.name (last_is c.args.plan.now (Some c.in-Some.name) c.in-Some.ensures) c.in_ok-taken-in-Some.field-0 c.in_ok-taken-in-Some.ensures.boxes)

pub returns-in_ok-lone_boxes-in-None-clause-nested : goal.returns-in_ok-lone_boxes-in-None-clause-nested
returns-in_ok-lone_boxes-in-None-clause-nested g c = λ by k. (
  λ t h. absurd (no_tree c.args.g.now c.args.plan.now c.requires.legal (last_is c.args.plan.now None c.in-None.ensures) t h),
  λ h. lone_kept _ g.G.Grid.BITS k c.args.g.now c.of.result (c.of.ensures ∙ c.in_ok-lone_boxes-in-None.ensures),
)

pub returns-in_ok-taken-in-Some-clause-nested : goal.returns-in_ok-taken-in-Some-clause-nested
returns-in_ok-taken-in-Some-clause-nested g c = λ by k. (
  λ t h. rw c.of-in-Some.ensures (
      let kept = nest g.G.Grid.BITS k c.args.g.now c.args.plan.now.steps t c.in_ok-taken-in-Some.field-0
      (subst (λ (q : PlaceBy). HasBoxes q g.G.Grid.BITS c.args.g.now c.args.plan.now.steps t c.in_ok-taken-in-Some.field-0) by
      (left_boxes c.args.placing g.G.Grid.BITS c.args.g.now c.args.plan.now c.requires.sound c.requires.legal c.in_ok-live-in-Some.live c.in_ok-live-in-Some.ensures
      c.in-Some.name (last_is c.args.plan.now (Some c.in-Some.name) c.in-Some.ensures) c.in_ok-taken-in-Some.field-0 c.in_ok-taken-in-Some.ensures.boxes t h)) in
      (kept.fine, kept.has, kept.inside)),
  λ none. absurd (leaf_there c.args.g.now c.args.plan.now c.requires.legal c.in-Some.name (last_is c.args.plan.now (Some c.in-Some.name) c.in-Some.ensures) none),
)

pub returns-in_err-live-in-Some-clause-nested : goal.returns-in_err-live-in-Some-clause-nested
returns-in_err-live-in-Some-clause-nested g c = λ by k.
    rw (err_is c.from_residual-in_err-live-in-Some.result c.in_err-live-in-Some.field-0.0 c.from_residual-in_err-live-in-Some.ensures)
    (kept_of _ c.args.placing g.G.Grid.BITS c.args.g.now c.args.plan.now c.in_err-live-in-Some.field-0.0 c.in_err-live-in-Some.ensures by k)

pub of-requires : goal.of-requires
of-requires g c = lone_bounded g.G.Grid.BITS c.args.g.now c.in_ok-lone_boxes-in-None.field-0 c.in_ok-lone_boxes-in-None.ensures

pub of-requires-in-Some : goal.of-requires-in-Some
of-requires-in-Some g c =
    left_bounded c.args.placing g.G.Grid.BITS c.args.g.now c.args.plan.now c.requires.sound c.requires.legal c.in_ok-live-in-Some.live c.in_ok-live-in-Some.ensures
    c.in-Some.name (last_is c.args.plan.now (Some c.in-Some.name) c.in-Some.ensures) c.in_ok-taken-in-Some.field-0 c.in_ok-taken-in-Some.ensures.boxes
