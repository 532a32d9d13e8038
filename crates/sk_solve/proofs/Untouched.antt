-- A plan with the choices of the drawing is placed as it is drawn, where no choice is turned over.
use Rattle.std.proofs.Common.{◌≡◌, ℕ, List, [], ◌∷◌, ◌++◌, map, refl, sym, ap, subst, ◌∙◌}
use Rattle.std.specs.Prelude.{All, Contains}
use Rattle.std.proofs.lemmas.List.Elements.{All-contains}
use Rattle.sk_base.specs.declared.Placed.{Placed}
use Rattle.sk_base.specs.declared.Sketch.{Sketch}
use Rattle.sk_base.specs.SoundSketch.{IsSoundSketch}
use Rattle.sk_base.proofs.Members.{contains_head, contains_later}
use Rattle.sk_tree.specs.DrawnChoice.{HasDrawnChoice}
use Rattle.sk_graph.specs.SketchGraph.{graph_of}
use Rattle.sk_tree.specs.declared.Choice.{Choice}
use Rattle.sk_tree.specs.declared.Plan.{Plan}
use Rattle.sk_tree.specs.declared.PlanStep.{PlanStep}
use Rattle.sk_tree.specs.ByNumber.{by_number}
use Rattle.sk_tree.specs.LegalPlan.{IsLegalPlan}
use Rattle.sk_place.specs.declared.Layout.{Layout}
use Rattle.sk_tolerance.specs.declared.Turned.{Turned as SignThere}
use Rattle.sk_tolerance.specs.declared.Wanted.TheVariants.{Drawn, Chosen}
use Rattle.sk_tolerance.specs.Telling.{HasCorners}
use Rattle.sk_tolerance.specs.Turns.{choices, as_chosen, constraint_signs, signs_of_step, signs_of_steps, signs_wanted}
use Rattle.sk_tolerance.proofs.Comparisons.{corners_of}
use Rattle.sk_solve.specs.declared.placing.Placement.{Placement}
use Rattle.sk_solve.specs.declared.placing.Placement.TheVariants.{Fault, Uncarried, Beyond, Turned, Holds}
use Rattle.sk_solve.specs.Alternatives.{alternative_of, IsAlternative}
use Rattle.sk_flips.specs.Flipping.{flipped_step, flipped}
use Rattle.sk_solve.specs.Placements.{midpoints, IsPlacement}
use Rattle.sk_solve.proofs.InTurn.{is_alternative}
use Rattle.sk_solve.proofs.OpenSteps.{untouched}

module _ (s : Sketch) (at : Placed) where
  untouched_step : (step : PlanStep) → HasCorners s step → HasDrawnChoice s step → signs_of_step Chosen s at step ≡ signs_of_step Drawn s at step
  untouched_step step corners drawn =
      let drawn_signs = choices s at step.step (by_number step.a step.b step.c) in
      ap (λ (choice : Choice). map (as_chosen choice) drawn_signs) drawn
      ∙ untouched s at step.step step.a step.b step.c corners.differ.0 corners.differ.1 corners.differ.2 corners.a corners.b corners.c

  untouched_steps : (steps : List PlanStep) → ((step : PlanStep) → Contains steps step → signs_of_step Chosen s at step ≡ signs_of_step Drawn s at step) → signs_of_steps Chosen s at steps ≡ signs_of_steps Drawn s at steps
  untouched_steps [] same = refl
  untouched_steps (step ∷ steps) same =
      let rest = untouched_steps steps (λ later h. same later (contains_later step steps later h)) in
      ap (λ (here : List SignThere). here ++ signs_of_steps Chosen s at steps) (same step (contains_head step steps))
      ∙ ap (λ (more : List SignThere). signs_of_step Drawn s at step ++ more) rest

  pub untouched_signs : (p : Plan) → IsSoundSketch s → IsLegalPlan (graph_of s) p → All (λ (step : PlanStep). HasDrawnChoice s step) p.steps → signs_wanted Chosen s at p ≡ signs_wanted Drawn s at p
  untouched_signs p sound legal drawn =
      ap (λ (more : List SignThere). constraint_signs s at s.constraints ++ more)
      (untouched_steps p.steps (λ step h. untouched_step step (corners_of s sound p legal step h) (All-contains (λ (x : PlanStep). HasDrawnChoice s x) p.steps step drawn h)))

none_flipped : (steps : List PlanStep) → map (flipped_step []) steps ≡ steps
none_flipped [] = refl
none_flipped (step ∷ steps) = ap (λ (more : List PlanStep). step ∷ more) (none_flipped steps)

pub flipped_by_none : (p : Plan) → flipped [] p ≡ p
flipped_by_none p = ap (λ (steps : List PlanStep). let plan : Plan = record { leaves = p.leaves; steps = steps } in plan) (none_flipped p.steps)

module _ (G : Type 0) (placing : Layout) (F limit : ℕ) (s : Sketch) (p : Plan) (same : (at : Placed) → signs_wanted Chosen s at p ≡ signs_wanted Drawn s at p) where
  as_chosen_too : (placement : Placement) → IsPlacement Drawn G placing F limit s p placement → IsPlacement Chosen G placing F limit s p placement
  as_chosen_too (Fault f) is = is
  as_chosen_too (Uncarried f) is = is
  as_chosen_too (Beyond b) is = is
  as_chosen_too (Turned t) (boxes, placed, (all, first)) = (boxes, placed, (all, rw (same (midpoints F boxes)) first))
  as_chosen_too (Holds at t) (boxes, placed, (lies, all, drawn, tolerance)) = (boxes, placed, (lies, all, rw (same (midpoints F boxes)) drawn, tolerance))

  pub placed_untouched : (placement : Placement) → IsPlacement Drawn G placing F limit s p placement → IsAlternative G placing F limit s p [] (alternative_of placement)
  placed_untouched placement is =
      is_alternative G placing F limit s p [] placement (refl, subst (λ (plan : Plan). IsPlacement Chosen G placing F limit s plan placement) (sym (flipped_by_none p)) (as_chosen_too placement is))
