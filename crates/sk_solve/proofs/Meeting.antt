-- Where elements are found, all holds within the least tolerance.
use Rattle.std.proofs.Common.{ℕ, List, sym, subst}
use Rattle.sk_base.specs.declared.Name.{Name}
use Rattle.sk_base.specs.declared.Placed.{Placed}
use Rattle.sk_base.specs.declared.Sketch.{Sketch}
use Rattle.sk_base.specs.SoundGraph.{IsSoundGraph}
use Rattle.sk_graph.specs.SketchGraph.{graph_of}
use Rattle.sk_tree.specs.declared.Plan.{Plan}
use Rattle.sk_place.specs.declared.Layout.{Layout}
use Rattle.sk_tolerance.specs.declared.Tolerance.{Tolerance}
use Rattle.sk_tolerance.specs.Tolerances.{AllHoldWithin}
use Rattle.sk_tolerance.proofs.Merging.{has_blocks}
use Rattle.sk_tolerance.proofs.Worsts.{all_hold_within}
use Rattle.sk_solve.specs.declared.alternative.Alternative.TheVariants.{Found}
use Rattle.sk_solve.specs.Alternatives.{IsAlternative}
use Rattle.sk_solve.specs.Placements.{IsTolerance}

module _ (G : Type 0) (placing : Layout) (F limit : ℕ) (s : Sketch) (p : Plan) (names : List Name) (at : Placed) (tol : Tolerance) where
  pub found_least : IsAlternative G placing F limit s p names (Found at tol) → IsTolerance at (graph_of s) tol
  found_least (chosen, (boxes, placed, (lies, all, drawn, tolerance))) = subst (λ (here : Placed). IsTolerance here (graph_of s) tol) (sym lies) tolerance

  pub found_met : IsSoundGraph (graph_of s) → IsAlternative G placing F limit s p names (Found at tol) → AllHoldWithin at (graph_of s) tol.t tol.w
  found_met sound found =
      let least = found_least found in
      all_hold_within at (graph_of s) tol.t tol.w (has_blocks (graph_of s) sound) least.lengths.holds least.angles.holds
