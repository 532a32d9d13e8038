-- What is left out of the parts that are over.
use Rattle.std.proofs.Common.{◌≡◌, inl, inr, List, ap, sym, subst, ◌∙◌}
use Rattle.std.specs.Prelude.{Contains}
use Rattle.sk_base.specs.declared.ConId.{ConId}
use Rattle.sk_base.specs.declared.Constraint.{Constraint}
use Rattle.sk_base.specs.declared.Placed.{Placed}
use Rattle.sk_base.specs.declared.Sketch.{Sketch}
use Rattle.sk_base.specs.SoundSketch.{IsSoundSketch}
use Rattle.sk_family.specs.Body.{Start}
use Rattle.sk_family.proofs.GraphStarts.{start_comes}
use Rattle.sk_graph.specs.SketchGraph.{edge_of, block_of, graph_of}
use Rattle.sk_graph.proofs.Given.{given_from}
use Rattle.sk_graph.proofs.Soundness.{graph_is_sound, given_edge_id, given_block_id}
use Rattle.sk_measure.specs.Placing.{PlacesExactly}
use Rattle.sk_tree.specs.declared.Plan.{Plan as ThePlan}
use Rattle.sk_tolerance.specs.declared.Tolerance.{Tolerance}
use Rattle.sk_solve.specs.declared.Placement.TheVariants.{Holds}
use Rattle.sk_excess.specs.LeftOut.{AreLeftOut}
use Rattle.sk_excess.specs.KeptSketch.{kept_sketch}
use Rattle.sk_excess.proofs.Choosing.{left_has}
use Rattle.sk_excess.proofs.KeptSketches.{kept_is_sound}
use Rattle.sk_request.specs.declared.Request.{Request}
use Rattle.sk_request.specs.Grids.{grid_of, digits_of}
use Rattle.sk_cli.specs.Solved.{IsPlacedPlan}
use Rattle.sk_cli.specs.Solving.{IsPlacement}
use Rattle.sk_cli.proofs.PlacedSpots.{laid_exactly}

module _ (own : Sketch) (sound : IsSoundSketch own) where
  -- each that is left out is one of the sketch
  pub left_numbered : (left : List ConId) → AreLeftOut (graph_of own) left → (k : ConId) → Contains left k → (c : Constraint) × Contains own.constraints c × (c.number ≡ k)
  left_numbered left are k k_in =
      let (s, s_in, s_is) = left_has (graph_of own) (graph_is_sound own sound) left are k k_in in
      elim (start_comes (graph_of own) s s_in) [
        | inl (b, b_in, starts) ↦ (
            let (c, c_in, gives) = given_from block_of own.constraints b b_in in
            let named : c.number ≡ k = sym (given_block_id c b gives) ∙ ap (λ (t : Start). t.number) starts ∙ s_is in
            (c, c_in, named))
        | inr (e, e_in, starts) ↦ (
            let (c, c_in, gives) = given_from (edge_of own) own.constraints e e_in in
            let named : c.number ≡ k = sym (given_edge_id own c e gives) ∙ ap (λ (t : Start). t.number) starts ∙ s_is in
            (c, c_in, named))
      ]

  -- the places of the kept sketch are those of all its elements
  pub kept_places : (request : Request) (left : List ConId) (p : ThePlan) (at : Placed) (t : Tolerance) → IsPlacedPlan request (kept_sketch left own) p (Holds at t) → PlacesExactly (graph_of own) at
  kept_places request left p at t placed =
      let kept = kept_sketch left own in
      let there : IsPlacement (grid_of request.bits) request.layout (digits_of request.bits) request.within kept p (Holds at t) = placed.placed in
      let laid = laid_exactly (grid_of request.bits) request.layout (digits_of request.bits) kept p (graph_is_sound kept (kept_is_sound left own sound)) placed.plan.legal there.0 there.1 in
      let exactly : PlacesExactly (graph_of kept) at = subst (λ (z : Placed). PlacesExactly (graph_of kept) z) (sym there.2.0) laid in
      record { nodes = exactly.nodes; no_others = exactly.no_others }
