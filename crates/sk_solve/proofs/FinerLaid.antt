-- Boxes that are laid on a finer grid, H, lie inside those on a coarser one, G.
use Rattle.std.proofs.Common.{◌≡◌, inl, inr, ℕ, ◌+◌, ◌≤◌, List, [], ◌∷◌, Result, Ok, Err, refl, sym, subst, ◌∙◌}
use Rattle.sk_base.specs.declared.ConId.{ConId}
use Rattle.sk_base.specs.declared.Graph.{Graph}
use Rattle.sk_base.specs.declared.Sketch.{Sketch}
use Rattle.sk_base.specs.SoundGraph.{IsSoundGraph}
use Rattle.sk_base.specs.SoundSketch.{IsSoundSketch}
use Rattle.std.proofs.lemmas.Option.{same_Some}
use Rattle.sk_graph.specs.SketchGraph.{graph_of}
use Rattle.sk_interval.specs.declared.Cause.TheVariants.{Range}
use Rattle.sk_tree.specs.declared.Plan.{Plan}
use Rattle.sk_tree.specs.declared.Tree.{Tree}
use Rattle.sk_tree.specs.LegalPlan.{IsLegalPlan}
use Rattle.sk_tree.specs.PlanTree.{IsPlanTree}
use Rattle.sk_place.specs.declared.BoxAt.{BoxAt}
use Rattle.sk_place.specs.declared.BoxFault.{BoxFault}
use Rattle.sk_place.specs.declared.PlaceBy.TheVariants.{Boxes}
use Rattle.sk_place.specs.Carrying.{carried_each}
use Rattle.sk_place.specs.Nesting.{AreInside}
use Rattle.sk_place.specs.Placing.{IsPlaced}
use Rattle.sk_place.proofs.Ending.{lone_kept}
use Rattle.sk_place.proofs.InsideSteps.{KeepsBox, each_box}
use Rattle.sk_place.proofs.InsideTrees.{nest_on}
use Rattle.sk_place.proofs.Ranges.{each_range}
use Rattle.sk_place.proofs.Results.{ok_inside}
use Rattle.sk_place.proofs.SomePlaces.{some_places}
use Rattle.sk_place.specs.declared.FrameBy.{FrameBy}
use Rattle.sk_place.specs.declared.FrameBy.TheVariants.{Base, Drawn}
use Rattle.sk_frame.specs.Frames.{frame_of}
use Rattle.sk_frame.proofs.MotionLaws.{finer_motion}
use Rattle.sk_frame.proofs.SoundFrames.{frame_is_sound}
use Rattle.sk_solve.specs.Placements.{IsCarried, IsLaid}
use Rattle.sk_solve.proofs.OnePlacement.{same_laid}

module _ {G : Type 0} (H : Type 0) (F k : ℕ) (p : Plan) where
  -- the plan's boxes on the finer grid, in the frame of the base
  module _ (g : Graph) (sound : IsSoundGraph g) (legal : IsLegalPlan g p) (tree : ¬ (p.leaves ≡ []) → (t : Tree) × IsPlanTree p t) where
    record HasFiner (bs : List (BoxAt G)) : Type 0 where
      fine : List (BoxAt H)
      placed : IsPlaced Boxes (F + k) g p (Ok fine)
      inside : AreInside k fine bs

    placed_finer : (bs : List (BoxAt G)) → IsPlaced Boxes F g p (Ok bs) → HasFiner bs
    placed_finer bs placed =
        elim (some_places H Boxes (F + k) g p sound legal) [
          | inr (f, failed) ↦ (let t = tree failed.1 in let finer = nest_on H F k g p.steps t.0 bs (placed.0 t.0 t.1) in absurd (finer.has.faultless f (failed.0 t.0 t.1).fails))
          | inl has ↦ record { fine = has.list; placed = has.placed; inside = by_leaves p.leaves refl has.list has.placed }
        ]
      where
        by_leaves : (leaves : List ConId) → p.leaves ≡ leaves → (fine : List (BoxAt H)) → IsPlaced Boxes (F + k) g p (Ok fine) → AreInside k fine bs
        by_leaves [] none fine found = subst (λ (l : List (BoxAt H)). AreInside k l bs) (sym (found.1 none)) (lone_kept H F k g bs (placed.1 none))
        by_leaves (c ∷ cs) are fine found =
            let t = tree (λ none. (let never : [] ≡ c ∷ cs = sym none ∙ are in cc)) in
            let finer = nest_on H F k g p.steps t.0 bs (placed.0 t.0 t.1) in
            subst (λ (l : List (BoxAt H)). AreInside k l bs) (same_Some finer.fine fine (sym finer.has.are ∙ (found.0 t.0 t.1).are)) finer.inside

  module _ (s : Sketch) (enough : 8 ≤ F) (sketch : IsSoundSketch s) (sound : IsSoundGraph (graph_of s)) where
    record HasFinerCarried (frame : FrameBy) (fine : List (BoxAt H)) (coarse : List (BoxAt G)) : Type 0 where
      there : List (BoxAt H)
      carried : IsCarried frame Boxes (F + k) s p fine (Ok there)
      inside : AreInside k there coarse

    carried_finer : (frame : FrameBy) (fine : List (BoxAt H)) (bs coarse : List (BoxAt G)) → AreInside k fine bs → IsCarried frame Boxes F s p bs (Ok coarse) → HasFinerCarried frame fine coarse
    carried_finer Base fine bs coarse inside is =
        record { there = fine; carried = refl; inside = subst (λ (l : List (BoxAt G)). AreInside k fine l) (sym (ok_inside coarse bs is)) inside }
    carried_finer Drawn fine bs coarse inside (m, m_is, is) =
        let f = frame_of s (graph_of s) p in
        let finer = finer_motion H F enough f (frame_is_sound s sketch (graph_of s) sound p) m (sym m_is) k in
        let kept : KeepsBox (AreInside {G = H} {H = G} k) (carried_each Boxes (F + k) finer.0 fine) (Ok coarse) =
        subst (λ (r : Result (List (BoxAt G)) BoxFault). KeepsBox (AreInside {G = H} {H = G} k) (carried_each Boxes (F + k) finer.0 fine) r) is (each_box H G F k finer.0 m finer.2 fine bs inside) in
        record { there = kept.0; carried = (finer.0, finer.1, kept.1); inside = kept.2 }

    module _ (legal : IsLegalPlan (graph_of s) p) (tree : ¬ (p.leaves ≡ []) → (t : Tree) × IsPlanTree p t) (frame : FrameBy) where
      -- the plan's boxes on the finer grid, in the frame that is wanted
      pub laid_finer : (coarse : List (BoxAt G)) → IsLaid (record { by = Boxes; frame = frame }) F s p coarse
          → (fine : List (BoxAt H)) × IsLaid (record { by = Boxes; frame = frame }) (F + k) s p fine × AreInside k fine coarse
      laid_finer coarse (bs, placed, is) =
          let finer = placed_finer (graph_of s) sound legal tree bs placed in
          let there = carried_finer frame finer.fine bs coarse finer.inside is in
          (there.there, (finer.fine, finer.placed, there.carried), there.inside)

      pub laid_inside : (coarse : List (BoxAt G)) (fine : List (BoxAt H)) → IsLaid (record { by = Boxes; frame = frame }) F s p coarse → IsLaid (record { by = Boxes; frame = frame }) (F + k) s p fine → AreInside k fine coarse
      laid_inside coarse fine laid finer =
          let other = laid_finer coarse laid in
          subst (λ (l : List (BoxAt H)). AreInside k l coarse) (same_laid H (record { by = Boxes; frame = frame }) (F + k) s p legal tree other.0 fine other.1 finer) other.2

-- a box that isn't carried has a number that gets too great
pub out_of_range : (G : Type 0) (F : ℕ) (s : Sketch) (p : Plan) (frame : FrameBy) (f : BoxFault) → (bs : List (BoxAt G)) × IsPlaced Boxes F (graph_of s) p (Ok bs) × IsCarried frame Boxes F s p bs (Err f) → f.cause ≡ Range
out_of_range G F s p Base f (bs, placed, is) = (let never : Err f ≡ Ok bs = is in absurd (cc))
out_of_range G F s p Drawn f (bs, placed, (m, m_is, is)) = each_range F m bs f is
