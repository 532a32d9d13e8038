-- A gap stays one on a finer grid, H, whatever is wanted there.
use Rattle.std.proofs.Common.{◌≡◌, ℕ, ℤ, ◌+◌, [], Err}
use Rattle.sk_base.specs.declared.Sketch.{Sketch}
use Rattle.sk_base.specs.SoundGraph.{IsSoundGraph}
use Rattle.sk_graph.specs.SketchGraph.{graph_of}
use Rattle.sk_interval.specs.declared.Cause.TheVariants.{Gap}
use Rattle.sk_tree.specs.declared.Plan.{Plan}
use Rattle.sk_tree.specs.declared.Tree.{Tree}
use Rattle.sk_tree.specs.LegalPlan.{IsLegalPlan}
use Rattle.sk_tree.specs.PlanTree.{IsPlanTree}
use Rattle.sk_place.specs.declared.FrameBy.{FrameBy}
use Rattle.sk_place.specs.declared.PlaceBy.TheVariants.{Boxes}
use Rattle.sk_place.specs.declared.PlaceError.TheVariants as errors
use Rattle.sk_place.specs.declared.StepFault.{StepFault}
use Rattle.sk_place.specs.Nesting.{with_gap}
use Rattle.sk_place.specs.Placing.{IsPlaced}
use Rattle.sk_place.proofs.Gaps.{gap_stays}
use Rattle.sk_tolerance.specs.declared.Wanted.{Wanted}
use Rattle.sk_solve.specs.declared.placing.Placement.{Placement}
use Rattle.sk_solve.specs.declared.placing.Placement.TheVariants.{Fault}
use Rattle.sk_solve.specs.Placements.{IsPlacement}
use Rattle.sk_solve.proofs.OnePlacement.{same_placement}

module _ (G H : Type 0) (F k : ℕ) (s : Sketch) (p : Plan) (sound : IsSoundGraph (graph_of s)) (legal : IsLegalPlan (graph_of s) p) (tree : ¬ (p.leaves ≡ []) → (t : Tree) × IsPlanTree p t)
    (f : StepFault) (lo hi : ℤ) (gap : f.cause ≡ Gap lo hi) (failed : IsPlaced {G = G} Boxes F (graph_of s) p (Err (errors.Fault f))) where
  pub gap_there : (l : ℤ) × (h : ℤ) × IsPlaced {G = H} Boxes (F + k) (graph_of s) p (Err (errors.Fault (with_gap f l h)))
  gap_there = gap_stays G H F k (graph_of s) p sound legal tree f lo hi gap failed

  pub gap_alone : (wanted : Wanted) (frame : FrameBy) (limit : ℕ) (q : Placement) → IsPlacement wanted H (record { by = Boxes; frame = frame }) (F + k) limit s p q
      → (l : ℤ) × (h : ℤ) × (q ≡ Fault (with_gap f l h))
  gap_alone wanted frame limit q is =
      let there = gap_there in
      (there.0, there.1, same_placement wanted H (record { by = Boxes; frame = frame }) (F + k) limit s p legal tree q (Fault (with_gap f there.0 there.1)) is there.2)
