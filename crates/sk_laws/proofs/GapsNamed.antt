-- A gap that is named is named again on a finer grid.
use Rattle.std.proofs.Common.{◌≡◌, inl, inr, ℕ, ℤ, ◌+◌, ◌-◌, List, Err, refl, ap, sym, subst, ◌∙◌, arith}
use Rattle.sk_base.specs.declared.Sketch.{Sketch}
use Rattle.sk_base.specs.SoundGraph.{IsSoundGraph}
use Rattle.sk_graph.specs.SketchGraph.{graph_of}
use Rattle.sk_tree.specs.declared.Plan.{Plan as ThePlan}
use Rattle.sk_plan.specs.PlanBy.{IsPlanBy}
use Rattle.sk_plan.proofs.OnePlan.{one_plan_by}
use Rattle.sk_plan.proofs.PlanTrees.{some_plan_tree}
use Rattle.sk_close_by_order.specs.declared.Order.{Order}
use Rattle.sk_place.specs.declared.PlaceBy.{PlaceBy}
use Rattle.sk_place.specs.declared.PlaceBy.TheVariants.{Boxes}
use Rattle.sk_place.specs.declared.PlaceError.TheVariants as errors
use Rattle.sk_place.specs.declared.StepFault.{StepFault}
use Rattle.sk_place.specs.Nesting.{with_gap}
use Rattle.sk_place.specs.Placing.{IsPlaced}
use Rattle.sk_place.proofs.Gaps.{gap_stays}
use Rattle.sk_tolerance.specs.declared.Wanted.TheVariants.{Drawn}
use Rattle.sk_solve.specs.declared.Placement.TheVariants.{Fault}
use Rattle.sk_solve.proofs.OnePlacement.{same_placement}
use Rattle.sk_request.specs.declared.Request.{Request}
use Rattle.sk_request.specs.Grids.{grid_of, digits_of}
use Rattle.sk_cli.specs.declared.Report.{Report}
use Rattle.sk_answers.specs.declared.Status.{Status}
use Rattle.sk_laws.specs.Causes.{IsFaultAt}
use Rattle.sk_laws.specs.Gaps.{IsAsFine, NamesGap, NamesGapThere}
use Rattle.sk_cli.specs.Outcome.{IsSolved}
use Rattle.sk_cli.specs.Solving.{status_of, placement_words}
use Rattle.sk_cli.proofs.PartsTold.{never_reported}

module _ (coarse fine : Request) (s : Sketch) (sound : IsSoundGraph (graph_of s)) (as_fine : IsAsFine coarse fine) (f : StepFault) (named : List ℕ) (told : NamesGap coarse s f named) where
  -- the plan on the finer grid
  record HasGap (p : ThePlan) : Type 0 where
    lo : ℤ
    hi : ℤ
    there : IsFaultAt fine s p (with_gap f lo hi)

  finer : (p : ThePlan) → IsPlanBy fine.order s p → HasGap p
  finer p by =
      let more : ℕ = digits_of fine.bits - digits_of coarse.bits in
      let digits : digits_of coarse.bits + more ≡ digits_of fine.bits = omega (arith, as_fine.digits) in
      let same : told.plan ≡ p = one_plan_by fine.order s told.plan p sound (subst (λ (o : Order). IsPlanBy o s told.plan) as_fine.order told.its) by in
      let failed : IsPlaced {G = grid_of coarse.bits} Boxes (digits_of coarse.bits) (graph_of s) p (Err (errors.Fault f)) =
      subst (λ (place : PlaceBy). IsPlaced {G = grid_of coarse.bits} place (digits_of coarse.bits) (graph_of s) p (Err (errors.Fault f))) as_fine.coarse_boxes
      (subst (λ (q : ThePlan). IsFaultAt coarse s q f) same told.first) in
      let found =
      gap_stays (grid_of coarse.bits) (grid_of fine.bits) (digits_of coarse.bits) more (graph_of s) p sound by.legal (some_plan_tree (graph_of s) p sound by.legal)
      f told.gap.0 told.gap.1 told.gap.2 failed in
      record {
        lo = found.0;
        hi = found.1;
        there = subst (λ (place : PlaceBy). IsPlaced {G = grid_of fine.bits} place (digits_of fine.bits) (graph_of s) p (Err (errors.Fault (with_gap f found.0 found.1)))) (sym as_fine.fine_boxes)
            (subst (λ (n : ℕ). IsPlaced {G = grid_of fine.bits} Boxes n (graph_of s) p (Err (errors.Fault (with_gap f found.0 found.1)))) digits found.2);
      }

  pub gap_solved : (report : Report) (status : Status) (text : List ℕ) → IsSolved report fine s status text → (status ≡ Status.StepFault) × NamesGapThere fine s f text
  gap_solved report status text solved =
      elim solved [
        | inr (short, why_short) ↦ absurd (never_reported s text told.its.well why_short)
        | inl (p, q, placed, status_is, text_is) ↦ (
            let gap = finer p placed.plan in
            let there : StepFault = with_gap f gap.lo gap.hi in
            let is : q ≡ Fault there =
            same_placement Drawn (grid_of fine.bits) fine.layout (digits_of fine.bits) fine.within s p placed.plan.legal (some_plan_tree (graph_of s) p sound placed.plan.legal) q (Fault there) placed.placed gap.there in (
              status_is ∙ ap status_of is,
              (
                gap.lo,
                gap.hi,
                record {
                  plan = p;
                  its = placed.plan;
                  first = gap.there;
                  gap = (gap.lo, gap.hi, refl);
                  line = text_is ∙ ap (placement_words report (digits_of fine.bits) s p) is;
                },
              ),
            ))
      ]
