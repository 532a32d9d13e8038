-- What is told of a part that is over is what `solve` ends in with the constraints that stay, and where each line says so, all
-- constraints fit there.
use Rattle.std.proofs.Common.{◌≡◌, ◌≢◌, inl, inr, ℕ, ◌≤◌, List, [], ◌++◌, get_or, refl, ap, subst, arith, ◌+◌, ◌∷◌, sym, ◌∙◌}
use Rattle.std.specs.Prelude.{Contains, map}
use Rattle.std.proofs.lemmas.List.Elements.{Contains-append_left}
use Rattle.sk_base.specs.declared.ConId.{ConId}
use Rattle.sk_base.specs.declared.Elem.{Elem}
use Rattle.sk_base.specs.declared.Element.{Element}
use Rattle.sk_base.specs.declared.Graph.{Graph}
use Rattle.sk_base.specs.declared.Sketch.{Sketch}
use Rattle.sk_base.specs.SoundGraph.{IsSoundGraph}
use Rattle.sk_base.specs.SoundSketch.{IsSoundSketch}
use Rattle.sk_graph.specs.SketchGraph.{node_of, graph_of}
use Rattle.sk_graph.proofs.Soundness.{graph_is_sound}
use Rattle.sk_lang.specs.Reading.{Reads}
use Rattle.sk_close_by_order.specs.declared.Order.TheVariants.{First}
use Rattle.sk_close_by_order.specs.Orders.{place_of, next_call, place_below}
use Rattle.sk_tree.specs.declared.Plan.{Plan as ThePlan}
use Rattle.sk_rules.specs.Excess.{held, weight_of}
use Rattle.sk_verdict.specs.declared.Judgement.{Judgement}
use Rattle.sk_verdict.specs.declared.Part.{Part}
use Rattle.sk_verdict.specs.Parts.{elem_of}
use Rattle.sk_plan.specs.Judged.{IsTheJudgement}
use Rattle.sk_plan.specs.PlanBy.{fresh}
use Rattle.sk_plan.proofs.SomePlans.{judgement_there}
use Rattle.sk_tolerance.specs.Turns.{constraint_signs, step_signs}
use Rattle.sk_solve.specs.declared.Placement.{Placement}
use Rattle.sk_solve.specs.declared.Placement.TheVariants as placed
use Rattle.sk_parts.specs.OwnSketch.{part_sketch}
use Rattle.sk_parts.proofs.Drawing.{part_is_sound}
use Rattle.sk_parts.proofs.OwnGraph.{own_held}
use Rattle.sk_parts.proofs.Sharing.{numbers_judged}
use Rattle.sk_excess.specs.LeftOut.{kept_graph, AreLeftOut}
use Rattle.sk_excess.specs.KeptSketch.{kept_sketch}
use Rattle.sk_excess.proofs.Choosing.{left_weighs}
use Rattle.sk_excess.proofs.KeptSketches.{kept_graph_is, kept_is_sound}
use Rattle.sk_report.specs.CheckReport.{check_report}
use Rattle.sk_report.specs.ExcessReport.{left_lines, stays_over}
use Rattle.sk_report.specs.SolveReport.{solve_report}
use Rattle.sk_request.specs.declared.Request.{Request}
use Rattle.sk_request.specs.Grids.{digits_of}
use Rattle.sk_request.specs.declared.Account.TheVariants.{Excesses}
use Rattle.sk_cli.specs.declared.Report.TheVariants.{Shape}
use Rattle.sk_answers.specs.declared.Status.{Status}
use Rattle.sk_answers.specs.declared.Status.TheVariants.{Done, StepFault, NotWell, Tolerance}
use Rattle.sk_cli.specs.ExcessReport.{IsExcess, IsExcessReport}
use Rattle.sk_cli.specs.Outcome.{IsAccountAnswer}
use Rattle.sk_laws.specs.Repeats.{IsByKept, FitsWhereRepeated, FitWhereRepeated}
use Rattle.sk_cli.specs.Solved.{IsPlacedPlan}
use Rattle.sk_cli.specs.Solving.{status_of, placement_words}
use Rattle.sk_why.proofs.OverTold.{over_each}
use Rattle.sk_cli.proofs.ExcessTold.{kept_places}
use Rattle.sk_laws.proofs.Fitting.{all_fit}
use Rattle.sk_laws.proofs.OneOutcome.{OneSketch, NotBoth, told_account}
use Rattle.sk_laws.proofs.Printed.{held_so}
use Rattle.sk_laws.proofs.RepeatLines.{told_repeats, never_repeats}

-- what fails has a line
fault_told : (request : Request) (s : Sketch) (p : ThePlan) (q : Placement) → status_of q ≢ Done → placement_words Shape (digits_of request.bits) s p q ≢ []
fault_told request s p (placed.Fault f) fails none = (let byte : 102 ≡ 0 = ap (λ (l : List ℕ). get_or l 0 0) none in omega (arith, byte))
fault_told request s p (placed.Uncarried f) fails none = (let byte : 102 ≡ 0 = ap (λ (l : List ℕ). get_or l 0 0) none in omega (arith, byte))
fault_told request s p (placed.Beyond b) fails none = (let byte : 102 ≡ 0 = ap (λ (l : List ℕ). get_or l 0 0) none in omega (arith, byte))
fault_told request s p (placed.Turned t) fails none = (let byte : 102 ≡ 0 = ap (λ (l : List ℕ). get_or l 0 0) none in omega (arith, byte))
fault_told request s p (placed.Holds at t) fails none = fails refl

module _ (request : Request) (own : Sketch) (sound : IsSoundSketch own) (left : List ConId) where
  abbrev kept : Sketch
  kept = kept_sketch left own

  kept_sound : IsSoundGraph (graph_of kept)
  kept_sound = graph_is_sound kept (kept_is_sound left own sound)

  faulty_by : (text : List ℕ) (p : ThePlan) (q : Placement) → IsPlacedPlan request kept p q → status_of q ≢ Done → text ≡ left_lines own left ++ placement_words Shape (digits_of request.bits) kept p q → IsByKept request own left text
  faulty_by text p (placed.Fault f) it fails is =
      (StepFault, placement_words Shape (digits_of request.bits) kept p (placed.Fault f), inl (p, placed.Fault f, it, refl, refl), inr (inl (inl refl, is)))
  faulty_by text p (placed.Uncarried f) it fails is =
      (StepFault, placement_words Shape (digits_of request.bits) kept p (placed.Uncarried f), inl (p, placed.Uncarried f, it, refl, refl), inr (inl (inl refl, is)))
  faulty_by text p (placed.Beyond b) it fails is =
      (Tolerance, placement_words Shape (digits_of request.bits) kept p (placed.Beyond b), inl (p, placed.Beyond b, it, refl, refl), inr (inl (inr refl, is)))
  faulty_by text p (placed.Turned t) it fails is =
      (StepFault, placement_words Shape (digits_of request.bits) kept p (placed.Turned t), inl (p, placed.Turned t, it, refl, refl), inr (inl (inl refl, is)))
  faulty_by text p (placed.Holds at t) it fails is = absurd (fails refl)

-- it is what `solve` ends in with the constraints that stay
pub as_kept : (request : Request) (own : Sketch) (text : List ℕ) → IsSoundSketch own → IsExcess request own text → (left : List ConId) × AreLeftOut (graph_of own) left × IsByKept request own left text
as_kept request own text sound (left, are, inl m) = (
  left,
  are,
  (
    Done,
    solve_report (kept_sketch left own) m.plan (digits_of request.bits) m.at m.tolerance,
    inl (m.plan, placed.Holds m.at m.tolerance, m.placed, refl, refl),
    inl (refl, (m.plan, m.at, m.tolerance, refl, m.told)),
  ),
)
as_kept request own text sound (left, are, inr (inl f)) = (left, are, faulty_by request own sound left text f.plan f.placement f.placed f.fails f.told)
as_kept request own text sound (left, are, inr (inr over)) =
    let j = judgement_there place_of next_call place_below (fresh First) (graph_of (kept_sketch left own)) (kept_sound request own sound left) in
    (left, are, (NotWell, check_report (kept_sketch left own) j.0, inr (refl, (j.0, j.1, (λ well. over.0 (j.0, j.1, well)), refl)), inr (inr (refl, over.1))))

-- all fits where each line says that a constraint repeats the others
fits : (request : Request) → request.within ≤ 1000000 → (own : Sketch) (text : List ℕ) → IsSoundSketch own → IsExcess request own text → FitsWhereRepeated request own text
fits request few own text sound (left, are, inl m) =
    let kept = kept_sketch left own in
    let holds = held_so Shape request kept Done [] (graph_is_sound kept (kept_is_sound left own sound)) m.plan m.placed.plan m.at m.tolerance m.placed.placed in (
      left,
      are,
      λ repeats. (
        m.plan,
        m.at,
        m.tolerance,
        inl (m.plan, placed.Holds m.at m.tolerance, m.placed, refl, refl),
        all_fit request.within own sound left m.at holds.within
            (λ sign h. holds.drawn sign (Contains-append_left (constraint_signs kept m.at kept.constraints) (step_signs kept m.at m.plan.steps) sign h))
            (told_repeats request.within few own m.at left text m.told repeats)
            (kept_places own sound request left m.plan m.at m.tolerance m.placed),
      ),
    )
fits request few own text sound (left, are, inr (inl f)) = (
  left,
  are,
  λ repeats. absurd (never_repeats own left (placement_words Shape (digits_of request.bits) (kept_sketch left own) f.plan f.placement) text (fault_told request (kept_sketch left own) f.plan f.placement f.fails) f.told repeats),
)
fits request few own text sound (left, are, inr (inr over)) = (
  left,
  are,
  λ repeats. absurd (never_repeats own left stays_over text (λ none. (let byte : 115 ≡ 0 = ap (λ (l : List ℕ). get_or l 0 0) none in omega (arith, byte))) over.1 repeats),
)

-- so of what is answered
pub answer_fits : OneSketch → NotBoth → (request : Request) → request.within ≤ 1000000 → (bytes : List ℕ) (status : Status) (text : List ℕ) (s : Sketch) → IsSoundSketch s → Reads bytes s → IsAccountAnswer Excesses request bytes status text
    → FitWhereRepeated request s text
answer_fits one_sketch not_both request few bytes status text s sound reads answer =
    elim (told_account Excesses request bytes status text answer) [
      | inl (done, (t, reads', report)) ↦ told (subst (λ (z : Sketch). IsExcessReport request z text) (one_sketch bytes t s reads' reads) report)
      | inr (refused, (r, refuses, is)) ↦ absurd (not_both bytes s r.line r.code reads refuses)
    ]
  where
    told : IsExcessReport request s text → FitWhereRepeated request s text
    told (j, lines, judged, each, is) = (
      j,
      lines,
      judged,
      over_each (IsExcess request) (FitsWhereRepeated request) s (λ xs below excess. fits request few (part_sketch s xs) below (part_is_sound s xs sound) excess) j.parts 1 lines each,
      is,
    )

elements_named : (xs : List Element) → map elem_of (map node_of xs) ≡ map (λ (x : Element). x.number) xs
elements_named [] = refl
elements_named (x ∷ xs) = ap (λ (l : List Elem). x.number ∷ l) (elements_named xs)

-- what a part holds is what the constraints that stay hold, and what the others weigh
pub part_weighs : (s : Sketch) → IsSoundSketch s → (j : Judgement) → IsTheJudgement (graph_of s) j → (p : Part) → Contains j.parts p → (left : List ConId)
    → p.held ≡ held (graph_of (kept_sketch left (part_sketch s p.elements))) p.elements + weight_of (graph_of (part_sketch s p.elements)) left
part_weighs s sound j is p p_in left =
    let own = part_sketch s p.elements in
    let part = ((is.every is.normal is.is_normal).parts p).0 p_in in
    let nodes_are : map elem_of (graph_of own).nodes ≡ p.elements = elements_named own.elements ∙ numbers_judged s j sound is p p_in in
    let weighs = subst (λ (xs : List Elem). held (graph_of own) xs ≡ held (kept_graph left (graph_of own)) xs + weight_of (graph_of own) left) nodes_are
    (left_weighs (graph_of own) (graph_is_sound own (part_is_sound s p.elements sound)) left) in
    ap (λ (q : Part). q.held) part.1 ∙ sym (own_held s p.elements sound) ∙ weighs
    ∙ ap (λ (g : Graph). held g p.elements + weight_of (graph_of own) left) (sym (kept_graph_is left own))
