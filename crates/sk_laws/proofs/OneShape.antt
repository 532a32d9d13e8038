-- The parts of a sketch whose verdict is well: one, with the shape that `solve` writes.
use Rattle.std.proofs.Common.{◌≡◌, inl, inr, refl, ℕ, ◌<◌, List, [], ◌∷◌, ◌++◌, length, ap, sym, subst, ◌∙◌, arith, append_assoc}
use Rattle.std.specs.Prelude.{Contains, codes}
use Rattle.std.proofs.lemmas.List.{append-nil}
use Rattle.sk_base.specs.declared.Element.{Element}
use Rattle.sk_base.specs.declared.Sketch.{Sketch}
use Rattle.sk_base.specs.SoundSketch.{IsSoundSketch}
use Rattle.sk_base.proofs.Members.{contains_none, contains_head}
use Rattle.sk_graph.specs.SketchGraph.{graph_of}
use Rattle.sk_verdict.specs.declared.Judgement.{Judgement}
use Rattle.sk_verdict.specs.declared.Part.{Part}
use Rattle.sk_verdict.specs.declared.Verdict.TheVariants.{Well}
use Rattle.sk_plan.specs.Judged.{IsTheJudgement, IsWell}
use Rattle.sk_plan.proofs.TheJudgement.{one_judgement}
use Rattle.sk_solve.specs.declared.Placement.{Placement}
use Rattle.sk_solve.specs.declared.Placement.TheVariants.{Fault, Uncarried, Beyond, Turned, Holds}
use Rattle.sk_parts.proofs.Sharing.{covered_judged, sole_judged, whole_judged, well_judged}
use Rattle.sk_report.specs.CheckReport.{part_line, parts_head}
use Rattle.sk_report.specs.SolveReport.{solve_counts, places_report}
use Rattle.sk_request.specs.declared.Request.{Request}
use Rattle.sk_cli.specs.declared.Report.TheVariants.{Places, Shape}
use Rattle.sk_request.specs.Grids.{digits_of}
use Rattle.sk_cli.specs.PartsReport.{IsShape, ArePartsTold, IsPartsReport}
use Rattle.sk_laws.specs.Shapes.{IsSolvedAs, IsOneShape}
use Rattle.sk_cli.specs.Solved.{IsPlacedPlan}
use Rattle.sk_cli.specs.Solving.{status_of, placement_words}

-- the shape of a sketch is what `solve` writes of it, but for the verdict
pub shape_as_solved : (request : Request) (s : Sketch) (shape : List ℕ) → IsShape request s shape → IsSolvedAs request s shape
shape_as_solved request s shape (p, placement, placed, is) = by_placement placement placed is
  where
    bits : ℕ
    bits = digits_of request.bits

    by_placement : (q : Placement) → IsPlacedPlan request s p q → shape ≡ placement_words Shape (digits_of request.bits) s p q → IsSolvedAs request s shape
    by_placement (Fault f) placed is = (status_of (Fault f), shape, inl (p, Fault f, placed, refl, is), inr ((λ same. cc), refl))
    by_placement (Uncarried f) placed is = (status_of (Uncarried f), shape, inl (p, Uncarried f, placed, refl, is), inr ((λ same. cc), refl))
    by_placement (Beyond b) placed is = (status_of (Beyond b), shape, inl (p, Beyond b, placed, refl, is), inr ((λ same. cc), refl))
    by_placement (Turned t) placed is = (status_of (Turned t), shape, inl (p, Turned t, placed, refl, is), inr ((λ same. cc), refl))
    by_placement (Holds at t) placed is = (
      status_of (Holds at t),
      placement_words Places (digits_of request.bits) s p (Holds at t),
      inl (p, Holds at t, placed, refl, refl),
      inl (refl, append_assoc (codes "verdict well\n") (solve_counts p (digits_of request.bits)) (places_report s at t) ∙ ap (λ t. codes "verdict well\n" ++ t) (sym is)),
    )

module _ (request : Request) (s : Sketch) (sound : IsSoundSketch s) (some : 0 < length s.elements) (well : IsWell (graph_of s)) where
  verdict_well : (j : Judgement) → IsTheJudgement (graph_of s) j → j.verdict ≡ Well
  verdict_well j judged =
      let (k, k_is, k_well) = well in
      subst (λ (z : Judgement). z.verdict ≡ Well) (one_judgement (graph_of s) k j k_is judged) k_well

  some_part : (j : Judgement) → IsTheJudgement (graph_of s) j → (p : Part) × Contains j.parts p
  some_part j judged = by_elements s.elements refl
    where
      by_elements : (xs : List Element) → s.elements ≡ xs → (p : Part) × Contains j.parts p
      by_elements [] is = (let none = ap (λ (xs : List Element). length xs) is in absurd (omega (arith, some, none)))
      by_elements (x ∷ xs) is =
          let found = covered_judged s j sound judged x (subst (λ ys. Contains ys x) (sym is) (contains_head x xs)) in
          (found.0, found.1)

  pub one_shape : (text : List ℕ) → IsPartsReport request s text → IsOneShape request s text
  one_shape text (j, lines, judged, told, is) = by_parts j.parts refl told
    where
      by_parts : (parts : List Part) → j.parts ≡ parts → ArePartsTold request s 1 parts lines → IsOneShape request s text
      by_parts [] none told = (let found = some_part j judged in absurd (contains_none found.0 (subst (λ ps. Contains ps found.0) none found.1)))
      by_parts (p ∷ q ∷ parts) several told =
          let few = sole_judged s j sound judged (verdict_well j judged) in
          let many = ap (λ (ps : List Part). length ps) several in
          absurd (omega (arith, few, many))
      by_parts (p ∷ []) alone (below, more, told, none, lines_are) =
          let p_in : Contains j.parts p = subst (λ ps. Contains ps p) (sym alone) (contains_head p []) in
          let whole = whole_judged s j sound judged (verdict_well j judged) p p_in in
          let not_over = (well_judged s j sound judged p p_in).0 (subst (λ (t : Sketch). IsWell (graph_of t)) (sym whole) well) in
          record {
            judgement = j;
            judged = judged;
            part = p;
            alone = alone;
            shape = below;
            is_shape = subst (λ t. IsShape request t below) whole (elim told [ inl over ↦ absurd (not_over over.0) | inr sound_told ↦ sound_told.1 ]);
            is = is ∙ ap (λ t. parts_head j ++ t) (lines_are ∙ ap (λ t. (part_line s 1 p ++ below) ++ t) none ∙ append-nil (part_line s 1 p ++ below));
          }
