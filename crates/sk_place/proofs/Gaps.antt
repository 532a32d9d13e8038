-- A gap stays one on each finer grid.
use Rattle.std.proofs.Common.{◌≡◌, inl, inr, ℕ, ℤ, ◌+◌, [], Err, refl, subst}
use Rattle.sk_base.specs.declared.Graph.{Graph}
use Rattle.sk_base.specs.SoundGraph.{IsSoundGraph}
use Rattle.sk_interval.specs.declared.Cause.{Cause}
use Rattle.sk_interval.specs.declared.Cause.TheVariants.{Gap}
use Rattle.sk_tree.specs.declared.Plan.{Plan}
use Rattle.sk_tree.specs.declared.Tree.{Tree}
use Rattle.sk_tree.specs.LegalPlan.{IsLegalPlan}
use Rattle.sk_tree.specs.PlanTree.{IsPlanTree}
use Rattle.sk_place.specs.declared.settling.PlaceBy.TheVariants.{Boxes}
use Rattle.sk_place.specs.declared.fault.StepFault.{StepFault}
use Rattle.sk_place.specs.declared.fault.PlaceError.TheVariants.{Fault}
use Rattle.sk_place.specs.Nesting.{KeepsGap, with_gap}
use Rattle.sk_place.specs.Placing.{IsPlaced}
use Rattle.sk_place.proofs.Failing.{failed_run, kept_run}
use Rattle.sk_place.proofs.OnePlacing.{one_first, one_failure, not_both}
use Rattle.sk_place.proofs.SomePlaces.{places_or, some_places}

-- H is the finer grid
module _ (G H : Type 0) (F k : ℕ) (g : Graph) (p : Plan) (sound : IsSoundGraph g) (legal : IsLegalPlan g p) (tree : ¬ (p.leaves ≡ []) → (t : Tree) × IsPlanTree p t) where
  record IsKeptFault (f : StepFault) : Type 0 where
    failed : IsPlaced {G = G} Boxes F g p (Err (Fault f))
    kept : KeepsGap H (F + k) g p f f.cause

  -- the first fault is that of the step that fails first, of which the finer grid keeps a gap
  gap_kept : (f : StepFault) → IsPlaced {G = G} Boxes F g p (Err (Fault f)) → KeepsGap H (F + k) g p f f.cause
  gap_kept f failed =
      elim (places_or G Boxes F g p sound legal IsKeptFault
      (λ i live after inside s s_is e made. record {
        failed = (failed_run Boxes F g p sound legal i live after inside s s_is (Fault e) made).0;
        kept = kept_run H Boxes F g p sound legal i live after inside s s_is e made refl k;
      })) [
        | inl has ↦ absurd (not_both G Boxes F g p legal tree has.list f has.placed failed)
        | inr (e, told) ↦ subst (λ (x : StepFault). KeepsGap H (F + k) g p x x.cause) (one_failure G Boxes F g p legal tree e f told.failed failed) told.kept
      ]

  -- so the finer grid has its first fault there too, and it is a gap
  pub gap_stays : (f : StepFault) (lo hi : ℤ) → f.cause ≡ Gap lo hi → IsPlaced {G = G} Boxes F g p (Err (Fault f))
      → (l : ℤ) × (h : ℤ) × IsPlaced {G = H} Boxes (F + k) g p (Err (Fault (with_gap f l h)))
  gap_stays f lo hi gap failed =
      let t = tree failed.1 in
      let kept : KeepsGap H (F + k) g p f (Gap lo hi) = subst (λ (c : Cause). KeepsGap H (F + k) g p f c) gap (gap_kept f failed) in
      let finer = kept t.0 t.1 in
      let there : StepFault = with_gap f finer.0 finer.1 in
      elim (some_places H Boxes (F + k) g p sound legal) [
        | inl has ↦ absurd ((has.placed.0 t.0 t.1).faultless there finer.2.fails)
        | inr (e, other) ↦ (
            let same : e ≡ there = one_first H Boxes (F + k) g p legal t.0 t.1 e there (other.0 t.0 t.1) finer.2 in
            (finer.0, finer.1, subst (λ (x : StepFault). IsPlaced {G = H} Boxes (F + k) g p (Err (Fault x))) same other))
      ]
