-- Each status has its cause, and each cause has its status.
use Rattle.std.proofs.Common.{◌≡◌, ◌≢◌, ◌⊎◌, inl, inr, ℕ, ◌<◌, List, length, refl, ap, sym, subst, ◌∙◌, arith}
use Rattle.std.specs.Prelude.{◌↔◌, IsTrue, take}
use Rattle.sk_base.specs.declared.Name.{Name}
use Rattle.sk_base.specs.declared.Placed.{Placed}
use Rattle.sk_base.specs.declared.Sketch.{Sketch}
use Rattle.sk_base.specs.SoundGraph.{IsSoundGraph}
use Rattle.sk_graph.specs.SketchGraph.{graph_of}
use Rattle.sk_graph.proofs.Soundness.{graph_is_sound}
use Rattle.sk_gen.specs.DatumSketch.{datum_sketch}
use Rattle.sk_tree.specs.declared.Plan.{Plan as ThePlan}
use Rattle.sk_plan.specs.Judged.{IsWell}
use Rattle.sk_plan.specs.PlanBy.{IsPlanBy}
use Rattle.sk_plan.proofs.OnePlan.{one_plan_by}
use Rattle.sk_plan.proofs.PlanTrees.{some_plan_tree}
use Rattle.sk_place.proofs.OnePlacing.{not_both}
use Rattle.sk_tolerance.specs.Tolerances.{AllHold, IsAbove, everything}
use Rattle.sk_tolerance.specs.Turns.{signs, AllAsDrawn, IsTurned}
use Rattle.sk_tolerance.proofs.Firsts.{first_inside}
use Rattle.sk_tolerance.proofs.OneMeasured.{not_beyond}
use Rattle.sk_request.specs.declared.Account.{Account}
use Rattle.sk_request.specs.declared.Command.{Command}
use Rattle.sk_request.specs.declared.Command.TheVariants.{Tell, Plan, Solve, Dxf, Offers, Session, Grow, Verify, Flips, Live, Complete, Measure}
use Rattle.sk_lang.specs.declared.Front.{Front}
use Rattle.sk_tolerance.specs.declared.Wanted.TheVariants.{Drawn}
use Rattle.sk_solve.specs.declared.Placement.{Placement}
use Rattle.sk_solve.specs.declared.Placement.TheVariants.{Fault, Uncarried, Beyond, Turned, Holds}
use Rattle.sk_request.specs.declared.Request.{Request}
use Rattle.sk_cli.specs.FlipsReport.{IsFlipped, IsFlipsAnswer}
use Rattle.sk_cli.specs.LiveAnswer.{IsLiveAnswer}
use Rattle.sk_cli.specs.SessionAnswer.{IsSessionAnswer}
use Rattle.sk_laws.proofs.OneLive.{told_live, all_answered}
use Rattle.sk_cli.specs.declared.Report.{Report}
use Rattle.sk_cli.specs.declared.Report.TheVariants.{Places, Drawing, Sums}
use Rattle.sk_answers.specs.declared.Status.{Status}
use Rattle.sk_answers.specs.declared.Status.TheVariants.{Done, Refused, Usage, NotWell, StepFault, Tolerance, NotVerified}
use Rattle.sk_request.specs.Asking.{HasFitSize, Asks, AreOfForm}
use Rattle.sk_request.specs.Grids.{grid_of, digits_of}
use Rattle.sk_cli.specs.Solving.{midpoints, status_of, IsMeasured, IsPlacement}
use Rattle.sk_cli.specs.Outcome.{IsPlanOrReport, IsSolved, IsAnswer, IsAnswerOf, IsAccountAnswer, IsOutcome}
use Rattle.sk_laws.specs.Causes.{plans, solves, IsReportOf, IsSketchOf, EndsInTime, IsRefusedInput, IsItsPlan, HasFault, LieAt, NonePasses, SomePasses, SomeTurned}
use Rattle.sk_solve.proofs.OnePlacement.{laid_measured, same_placement}
use Rattle.sk_request.proofs.OneRequest.{same_request}
use Rattle.sk_laws.proofs.OneOutcome.{OneSketch, NotBoth, OneJudgement, LowerLaws, still_well, one_solved, told_account, told_plan, told_planned, told_solve, told_offers, told_session, told_claim, told_flips, told_flipped, not_read_and_refused, not_accepted_and_failing, not_claimed_and_refused, not_flips_and_refused, not_placed_and_refused}
use Rattle.sk_cli.proofs.CompleteTold.{told_complete, other_completed}
use Rattle.sk_answers.proofs.MeasureTold.{told_measure, told_measurement, told_fault}
use Rattle.sk_cli.proofs.Runs.{solved_told}
use Rattle.sk_answers.specs.VerifyAnswer.{HasClaim}
use Rattle.sk_lines.specs.declared.Refusal.{Refusal}
use Rattle.sk_lang.specs.Reading.{Refuses}
use Rattle.sk_report.specs.RefusalLine.{refusal_line}
use Rattle.sk_claims.specs.declared.claim.Claim.{Claim}
use Rattle.sk_verify.specs.declared.failure.Failure.{Failure}
use Rattle.sk_verify.specs.Failing.{IsAccepted, FailsFirst}
use Rattle.sk_verify.specs.Texts.{failure_line, verified_line}
use Rattle.sk_close_by_order.specs.declared.Order.{Order}

-- what is placed has the verdict well
pub never_short : (q : Placement) → status_of q ≡ NotWell → ⊥
never_short (Fault f) same = cc
never_short (Uncarried f) same = cc
never_short (Beyond b) same = cc
never_short (Turned t) same = cc
never_short (Holds at t) same = cc

-- a plan and where it places the elements, by the status that tells of it
module _ (request : Request) (s : Sketch) (p : ThePlan) where
  abbrev pub IsPlacedSo : Placement → Type 0
  IsPlacedSo q = IsPlacement (grid_of request.bits) request.layout (digits_of request.bits) request.within s p q

  abbrev pub IsFault : Type 0
  IsFault = HasFault request s p ⊎ ((at : Placed) × LieAt request s p at × NonePasses request s at × SomeTurned request s p at)

  abbrev pub IsBeyond : Type 0
  IsBeyond = (at : Placed) × LieAt request s p at × SomePasses request s at

  abbrev pub IsHeld : Type 0
  IsHeld = (at : Placed) × LieAt request s p at × NonePasses request s at × AllAsDrawn (signs s at p)

  pub why_fault : (q : Placement) → IsPlacedSo q → status_of q ≡ StepFault → IsFault
  why_fault (Fault f) is same = inl (inl (f, is))
  why_fault (Uncarried f) is same = inl (inr (f, is))
  why_fault (Beyond b) is same = cc
  why_fault (Turned t) is same =
      inr (midpoints (digits_of request.bits) is.0, (is.0, is.1, refl), is.2.0, (t, first_inside IsTurned (signs s (midpoints (digits_of request.bits) is.0) p) t is.2.1, is.2.1.has))
  why_fault (Holds at t) is same = cc

  pub why_beyond : (q : Placement) → IsPlacedSo q → status_of q ≡ Tolerance → IsBeyond
  why_beyond (Fault f) is same = cc
  why_beyond (Uncarried f) is same = cc
  why_beyond (Beyond b) is same =
      let at = midpoints (digits_of request.bits) is.0 in
      (at, (is.0, is.1, refl), (is.2.item, first_inside (IsAbove at request.within) (everything (graph_of s)) is.2.item is.2.first, is.2.first.has))
  why_beyond (Turned t) is same = cc
  why_beyond (Holds at t) is same = cc

  pub why_held : (q : Placement) → IsPlacedSo q → status_of q ≡ Done → IsHeld
  why_held (Fault f) is same = cc
  why_held (Uncarried f) is same = cc
  why_held (Beyond b) is same = cc
  why_held (Turned t) is same = cc
  why_held (Holds at t) is same = (midpoints (digits_of request.bits) is.0, (is.0, is.1, refl), is.2.1, is.2.2)

  not_above : (at : Placed) → AllHold at (everything (graph_of s)) request.within → SomePasses request s at → ⊥
  not_above at all (item, inside, above) = let few = above.1.least request.within (all item inside) in omega (arith, above.2, few)

  held_fault : (at : Placed) (q : Placement) → IsMeasured request.within s p at q → NonePasses request s at → SomeTurned request s p at → status_of q ≡ StepFault
  held_fault at (Fault f) measured none turned = refl
  held_fault at (Uncarried f) measured none turned = refl
  held_fault at (Beyond b) measured none turned = absurd (not_beyond at (everything (graph_of s)) request.within b none measured)
  held_fault at (Turned t) measured none turned = refl
  held_fault at (Holds here t) measured none (sign, inside, other) = absurd (other (measured.2 sign inside))

  held_beyond : (at : Placed) (q : Placement) → IsMeasured request.within s p at q → SomePasses request s at → status_of q ≡ Tolerance
  held_beyond at (Fault f) measured some = absurd measured
  held_beyond at (Uncarried f) measured some = absurd measured
  held_beyond at (Beyond b) measured some = refl
  held_beyond at (Turned t) measured some = absurd (not_above at measured.0 some)
  held_beyond at (Holds here t) measured some = absurd (not_above at measured.1 some)

  held_done : (at : Placed) (q : Placement) → IsMeasured request.within s p at q → NonePasses request s at → AllAsDrawn (signs s at p) → status_of q ≡ Done
  held_done at (Fault f) measured none drawn = absurd measured
  held_done at (Uncarried f) measured none drawn = absurd measured
  held_done at (Beyond b) measured none drawn = absurd (not_beyond at (everything (graph_of s)) request.within b none measured)
  held_done at (Turned t) measured none drawn = absurd (measured.1.has (drawn t (first_inside IsTurned (signs s at p) t measured.1)))
  held_done at (Holds here t) measured none drawn = refl

  module _ (sound : IsSoundGraph (graph_of s)) (by : IsPlanBy request.order s p) where
    -- elements that lie somewhere have no fault, and are measured there
    measured_at : (q : Placement) → IsPlacedSo q → (at : Placed) → LieAt request s p at → IsMeasured request.within s p at q
    measured_at q placed at (there, laid, is) =
        subst (λ here. IsMeasured request.within s p here q) (sym is)
        (laid_measured Drawn (grid_of request.bits) request.layout (digits_of request.bits) request.within s p by.legal (some_plan_tree (graph_of s) p sound by.legal) q placed there laid)

    -- a plan that is placed so is placed in no other way
    only_so : (q r : Placement) → IsPlacedSo q → IsPlacedSo r → q ≡ r
    only_so q r placed other = same_placement Drawn (grid_of request.bits) request.layout (digits_of request.bits) request.within s p by.legal (some_plan_tree (graph_of s) p sound by.legal) q r placed other

    pub fault_told : (q : Placement) → IsPlacedSo q → IsFault → status_of q ≡ StepFault
    fault_told q placed (inl (inl (f, failed))) = ap status_of (only_so q (Fault f) placed failed)
    fault_told q placed (inl (inr (f, off))) = ap status_of (only_so q (Uncarried f) placed off)
    fault_told q placed (inr (at, lie, none, turned)) = held_fault at q (measured_at q placed at lie) none turned

    pub beyond_told : (q : Placement) → IsPlacedSo q → IsBeyond → status_of q ≡ Tolerance
    beyond_told q placed (at, lie, some) = held_beyond at q (measured_at q placed at lie) some

    pub held_told : (q : Placement) → IsPlacedSo q → IsHeld → status_of q ≡ Done
    held_told q placed (at, lie, none, drawn) = held_done at q (measured_at q placed at lie) none drawn

-- the answer to a request, whatever else the outcome might be
pub answer_about : (words : List (List ℕ)) (bytes text : List ℕ) (status : Status) (request : Request) → IsOutcome words bytes status text → Asks words request → IsAnswer request bytes status text
answer_about words bytes text status request outcome asks =
    elim outcome [
      | inl (other, other_asks, answer) ↦ subst (λ (r : Request). IsAnswer r bytes status text) (same_request words other request other_asks asks) answer
      | inr usage ↦ absurd (usage.0 (request, asks))
    ]

pub sound_about : LowerLaws → (command : Command) (request : Request) (bytes : List ℕ) (s : Sketch) → HasFitSize command → IsSketchOf command request bytes s → IsSoundGraph (graph_of s)
sound_about laws (Grow n) request bytes s fit is = subst (λ z. IsSoundGraph (graph_of z)) (sym is) (graph_is_sound (datum_sketch n) (laws.made n fit.0 fit.1))
sound_about laws Offers request bytes s fit (front, reads, is) = subst (λ z. IsSoundGraph (graph_of z)) (sym is) (graph_is_sound front.sketch (laws.sound (take front.used bytes) front.sketch reads.reads))
sound_about laws Verify request bytes s fit (front, reads, is) = subst (λ z. IsSoundGraph (graph_of z)) (sym is) (graph_is_sound front.sketch (laws.sound (take front.used bytes) front.sketch reads.reads))
sound_about laws Measure request bytes s fit (front, reads, is) = subst (λ z. IsSoundGraph (graph_of z)) (sym is) (graph_is_sound front.sketch (laws.sound (take front.used bytes) front.sketch reads.reads))
sound_about laws Flips request bytes s fit (front, lists, reads, is) =
    subst (λ z. IsSoundGraph (graph_of z)) (sym is) (graph_is_sound front.sketch (laws.sound (take front.used bytes) front.sketch reads.0.reads))
sound_about laws Session request bytes s fit about = absurd about
sound_about laws Live request bytes s fit about = absurd about
sound_about laws command request bytes s fit reads = graph_is_sound s (laws.sound bytes s reads)

-- a command that solves a sketch tells of the one that it is about
pub solved_about : OneSketch → NotBoth → (command : Command) (request : Request) (bytes text : List ℕ) (status : Status) (s : Sketch) → IsAnswerOf command request bytes status text
    → IsTrue (solves command) → IsSketchOf command request bytes s → (report : Report) × IsReportOf command report × IsSolved report request s status text
solved_about one_sketch not_both (Tell account) request bytes text status s answer placed reads = cc
solved_about one_sketch not_both Plan request bytes text status s answer placed reads = cc
solved_about one_sketch not_both Offers request bytes text status s answer placed reads = cc
solved_about one_sketch not_both Verify request bytes text status s answer placed about = cc
solved_about one_sketch not_both Flips request bytes text status s answer placed about = cc
solved_about one_sketch not_both Complete request bytes text status s answer placed about = cc
solved_about one_sketch not_both Measure request bytes text status s answer placed about = cc
solved_about one_sketch not_both Session request bytes text status s answer placed about = absurd about
solved_about one_sketch not_both Live request bytes text status s answer placed about = absurd about
solved_about one_sketch not_both Solve request bytes text status s answer placed reads =
    elim (told_solve Places request bytes status text answer) [
      | inl (refused, line) ↦ absurd (not_both bytes s line.0.line line.0.code reads line.1)
      | inr (t, reads', solved) ↦ (Places, tt, subst (λ z. IsSolved Places request z status text) (one_sketch bytes t s reads' reads) solved)
    ]
solved_about one_sketch not_both Dxf request bytes text status s answer placed reads =
    elim (told_solve Drawing request bytes status text answer) [
      | inl (refused, line) ↦ absurd (not_both bytes s line.0.line line.0.code reads line.1)
      | inr (t, reads', solved) ↦ (Drawing, tt, subst (λ z. IsSolved Drawing request z status text) (one_sketch bytes t s reads' reads) solved)
    ]
solved_about one_sketch not_both (Grow n) request bytes text status s solved placed is = (Sums, tt, subst (λ z. IsSolved Sums request z status text) (sym is) solved)

module _ (law : OneJudgement) (laws : LowerLaws) (report : Report) (request : Request) (s : Sketch) (status : Status) (text : List ℕ) (solved : IsSolved report request s status text) where
  -- a status that is told of a plan has the cause that the plan's placement has
  told_why : (want : Status) (Why : ThePlan → Type 0) → want ≢ NotWell → ((p : ThePlan) (q : Placement) → IsPlacedSo request s p q → status_of q ≡ want → Why p)
      → status ≡ want → (p : ThePlan) × IsItsPlan request s p × Why p
  told_why want Why other why is =
      elim solved [
        | inl (p, q, placed, status_is, text_is) ↦ (p, placed.plan, why p q placed.placed (sym status_is ∙ is))
        | inr (short, why_short) ↦ absurd (other (sym is ∙ short))
      ]

  why_told : (want : Status) (Why : ThePlan → Type 0) → IsSoundGraph (graph_of s) → ((p : ThePlan) → IsPlanBy request.order s p → (q : Placement) → IsPlacedSo request s p q → Why p → status_of q ≡ want)
      → (p : ThePlan) × IsItsPlan request s p × Why p → status ≡ want
  why_told want Why sound told (p, by, why) =
      elim solved [
        | inl (p', q, placed, status_is, text_is) ↦
            let same : p' ≡ p = one_plan_by request.order s p' p sound placed.plan by in
            status_is ∙ told p by q (subst (λ (z : ThePlan). IsPlacedSo request s z q) same placed.placed) why
        | inr (short, why_short) ↦ absurd (still_well law s text by.well why_short)
      ]

  pub not_well_both : (status ≡ NotWell) ↔ ¬ IsWell (graph_of s)
  not_well_both = (
    (λ is well. elim solved [
      | inl (p, q, placed, status_is, text_is) ↦ never_short q (sym status_is ∙ is)
      | inr (short, why_short) ↦ still_well law s text well why_short
    ]),
    (λ not_well. elim solved [ inl (p, q, placed, status_is, text_is) ↦ absurd (not_well placed.plan.well) | inr (short, why_short) ↦ short ]),
  )

  pub fault_both : IsSoundGraph (graph_of s) → (status ≡ StepFault) ↔ ((p : ThePlan) × IsItsPlan request s p × IsFault request s p)
  fault_both sound = (
    told_why StepFault (IsFault request s) (λ same. cc) (why_fault request s),
    why_told StepFault (IsFault request s) sound (λ p by. fault_told request s p sound by),
  )

  pub beyond_both : IsSoundGraph (graph_of s) → (status ≡ Tolerance) ↔ ((p : ThePlan) × IsItsPlan request s p × IsBeyond request s p)
  beyond_both sound = (
    told_why Tolerance (IsBeyond request s) (λ same. cc) (why_beyond request s),
    why_told Tolerance (IsBeyond request s) sound (λ p by. beyond_told request s p sound by),
  )

  pub held_both : IsSoundGraph (graph_of s) → (status ≡ Done) ↔ ((p : ThePlan) × IsItsPlan request s p × IsHeld request s p)
  held_both sound = (
    told_why Done (IsHeld request s) (λ same. cc) (why_held request s),
    why_told Done (IsHeld request s) sound (λ p by. held_told request s p sound by),
  )

-- the verdict of a sketch that `plan` reads
pub planned_not_well : OneJudgement → (order : Order) (s : Sketch) (status : Status) (text : List ℕ) → IsPlanOrReport order s status text → (status ≡ NotWell) ↔ ¬ IsWell (graph_of s)
planned_not_well law order s status text answer =
    elim (told_planned order s status text answer) [
      | inl (done, (p, by, is)) ↦ ((λ same. (let clash : Done ≡ NotWell = sym done ∙ same in cc)), (λ not_well. absurd (not_well by.well)))
      | inr (short, why_short) ↦ ((λ same well. still_well law s text well why_short), (λ not_well. short))
    ]

-- what `flips` tells of the sketch that it is about
pub flips_about : LowerLaws → (request : Request) (bytes text : List ℕ) (status : Status) (s : Sketch) → IsFlipsAnswer request bytes status text → IsSketchOf Flips request bytes s
    → (lists : List (List Name)) × IsFlipped request s lists status text
flips_about laws request bytes text status s answer (g, others, reads, s_is) =
    elim (told_flips request bytes status text answer) [
      | inl (refused, line) ↦ absurd (not_flips_and_refused laws bytes text g others reads line)
      | inr (f, lists, reads', told) ↦
          let same : f.sketch ≡ s = ap (λ (z : Front). z.sketch) (laws.front.one_front bytes f g reads'.0 reads.0) ∙ sym s_is in
          (lists, subst (λ (z : Sketch). IsFlipped request z lists status text) same told)
    ]

-- the verdict of a sketch whose choices `flips` turns
pub flipped_not_well : OneJudgement → (request : Request) (s : Sketch) (lists : List (List Name)) (status : Status) (text : List ℕ) → IsFlipped request s lists status text → (status ≡ NotWell) ↔ ¬ IsWell (graph_of s)
flipped_not_well law request s lists status text answer =
    elim (told_flipped request s lists status text answer) [
      | inl (done, report) ↦ ((λ same. (let clash : Done ≡ NotWell = sym done ∙ same in cc)), (λ not_well. absurd (not_well report.by.well)))
      | inr (short, why_short) ↦ ((λ same well. still_well law s text well why_short), (λ not_well. short))
    ]

pub not_well_about : OneSketch → NotBoth → OneJudgement → LowerLaws → (command : Command) (request : Request) (bytes text : List ℕ) (status : Status) (s : Sketch) → IsAnswerOf command request bytes status text
    → IsTrue (plans command) → IsSketchOf command request bytes s → (status ≡ NotWell) ↔ ¬ IsWell (graph_of s)
not_well_about one_sketch not_both law laws (Tell account) request bytes text status s answer planned about = cc
not_well_about one_sketch not_both law laws Offers request bytes text status s answer planned about = cc
not_well_about one_sketch not_both law laws Verify request bytes text status s answer planned about = cc
not_well_about one_sketch not_both law laws Complete request bytes text status s answer planned about = cc
not_well_about one_sketch not_both law laws Measure request bytes text status s answer planned about = cc
not_well_about one_sketch not_both law laws Flips request bytes text status s answer planned about =
    let told = flips_about laws request bytes text status s answer about in flipped_not_well law request s told.0 status text told.1
not_well_about one_sketch not_both law laws Session request bytes text status s answer planned about = absurd about
not_well_about one_sketch not_both law laws Live request bytes text status s answer planned about = absurd about
not_well_about one_sketch not_both law laws Plan request bytes text status s answer planned reads =
    elim (told_plan request.order bytes status text answer) [
      | inl (refused, line) ↦ absurd (not_both bytes s line.0.line line.0.code reads line.1)
      | inr (t, reads', told) ↦ planned_not_well law request.order s status text (subst (λ z. IsPlanOrReport request.order z status text) (one_sketch bytes t s reads' reads) told)
    ]
not_well_about one_sketch not_both law laws Solve request bytes text status s answer planned about =
    let solved = solved_about one_sketch not_both Solve request bytes text status s answer refl about in not_well_both law laws solved.0 request s status text solved.2
not_well_about one_sketch not_both law laws Dxf request bytes text status s answer planned about =
    let solved = solved_about one_sketch not_both Dxf request bytes text status s answer refl about in not_well_both law laws solved.0 request s status text solved.2
not_well_about one_sketch not_both law laws (Grow n) request bytes text status s answer planned about =
    let solved = solved_about one_sketch not_both (Grow n) request bytes text status s answer refl about in not_well_both law laws solved.0 request s status text solved.2

-- an account comes with one of two statuses
no_other_account : (account : Account) (request : Request) (bytes text : List ℕ) (status : Status) → IsAccountAnswer account request bytes status text → status ≢ Done → ¬ (status ≢ Refused)
no_other_account account request bytes text status answer done refused =
    elim (told_account account request bytes status text answer) [ inl told ↦ done told.0 | inr line ↦ refused line.0 ]

-- `complete` and `measure` have causes of their own
abbrev pub HasOtherCauses : Command → Status → Type 0
HasOtherCauses Complete NotWell = Unit {0}
HasOtherCauses Measure StepFault = Unit {0}
HasOtherCauses Measure Tolerance = Unit {0}
HasOtherCauses Measure NotVerified = Unit {0}
HasOtherCauses command status = ⊥

-- a status that tells neither that the command did its work nor that the input is refused, nor that a claim fails, comes only of a sketch that is planned
planned_sketch : (command : Command) (request : Request) (bytes text : List ℕ) (status : Status) → IsAnswerOf command request bytes status text → status ≢ Done → status ≢ Refused → (command ≡ Verify → status ≢ NotVerified)
    → ¬ HasOtherCauses command status → IsTrue (plans command) × ((s : Sketch) × IsSketchOf command request bytes s)
planned_sketch (Tell account) request bytes text status answer done refused unless others = absurd (no_other_account account request bytes text status answer done refused)
planned_sketch Verify request bytes text status answer done refused unless others =
    elim (told_claim bytes status text answer) [
      | inl verified ↦ absurd (done verified.0)
      | inr (inl failing) ↦ absurd (unless refl failing.0)
      | inr (inr line) ↦ absurd (refused line.0)
    ]
planned_sketch Offers request bytes text status answer done refused unless others =
    elim (told_offers bytes status text answer) [ inl report ↦ absurd (done report.0) | inr line ↦ absurd (refused line.0) ]
planned_sketch Flips request bytes text status answer done refused unless others =
    elim (told_flips request bytes status text answer) [ inl (is, line) ↦ absurd (refused is) | inr (front, lists, reads, told) ↦ (refl, (front.sketch, (front, lists, reads, refl))) ]
planned_sketch Session request bytes text status answer done refused unless others =
    elim (told_session request bytes status text answer) [ inl ended ↦ absurd (done ended.0) | inr long ↦ absurd (refused long.0) ]
planned_sketch Live request bytes text status answer done refused unless others =
    elim (told_live request bytes status text answer) [ inl ended ↦ absurd (done ended.0) | inr long ↦ absurd (refused long.0) ]
planned_sketch Plan request bytes text status answer done refused unless others =
    elim (told_plan request.order bytes status text answer) [ inl (is, line) ↦ absurd (refused is) | inr (s, reads, told) ↦ (refl, (s, reads)) ]
planned_sketch Solve request bytes text status answer done refused unless others =
    elim (told_solve Places request bytes status text answer) [ inl (is, line) ↦ absurd (refused is) | inr (s, reads, solved) ↦ (refl, (s, reads)) ]
planned_sketch Dxf request bytes text status answer done refused unless others =
    elim (told_solve Drawing request bytes status text answer) [ inl (is, line) ↦ absurd (refused is) | inr (s, reads, solved) ↦ (refl, (s, reads)) ]
planned_sketch (Grow n) request bytes text status solved done refused unless others = (refl, (datum_sketch n, refl))
planned_sketch Complete request bytes text status answer done refused unless others =
    elim (told_complete bytes status text answer) [
      | inl (is, line) ↦ absurd (refused is)
      | inr (s, reads, (c, given, is)) ↦ absurd (other_completed status c is done (λ short. others (subst (λ z. HasOtherCauses Complete z) (sym short) tt)))
    ]
planned_sketch Measure request bytes text status answer done refused unless others =
    elim (told_measure request.within bytes status text answer) [
      | inl (is, line) ↦ absurd (refused is)
      | inr (f, c, has, measured) ↦ elim (told_measurement request.within f.sketch c status text measured) [
        | inl (is, untold) ↦ absurd (others (subst (λ z. HasOtherCauses Measure z) (sym is) tt))
        | inr (told, there) ↦ elim (told_fault request.within f.sketch c.at status there.line there.fault) [
          | inl (is, fault) ↦ absurd (done is)
          | inr (inl (is, fault)) ↦ absurd (others (subst (λ z. HasOtherCauses Measure z) (sym is) tt))
          | inr (inr (is, fault)) ↦ absurd (others (subst (λ z. HasOtherCauses Measure z) (sym is) tt))
        ]
      ]
    ]

-- and where it tells not even that the verdict isn't well, the sketch is solved
placed_sketch : (command : Command) (request : Request) (bytes text : List ℕ) (status : Status) → IsAnswerOf command request bytes status text → status ≢ Done → status ≢ Refused → status ≢ NotVerified → status ≢ NotWell
    → ¬ HasOtherCauses command status → IsTrue (solves command) × ((s : Sketch) × IsSketchOf command request bytes s)
placed_sketch command request bytes text status answer done refused fails short others =
    let there = planned_sketch command request bytes text status answer done refused (λ same. fails) others in (placed command answer there.0, there.1)
  where
    placed : (command : Command) → IsAnswerOf command request bytes status text → IsTrue (plans command) → IsTrue (solves command)
    placed (Tell account) answer planned = cc
    placed Offers answer planned = cc
    placed Verify answer planned = cc
    placed Session answer planned = cc
    placed Live answer planned = cc
    placed Complete answer planned = cc
    placed Measure answer planned = cc
    placed Plan answer planned =
        elim (told_plan request.order bytes status text answer) [
          | inl (is, line) ↦ absurd (refused is)
          | inr (s, reads, told) ↦ elim (told_planned request.order s status text told) [ inl (is, report) ↦ absurd (done is) | inr (is, report) ↦ absurd (short is) ]
        ]
    placed Flips answer planned =
        elim (told_flips request bytes status text answer) [
          | inl (is, line) ↦ absurd (refused is)
          | inr (front, lists, reads, told) ↦ elim (told_flipped request front.sketch lists status text told) [ inl (is, report) ↦ absurd (done is) | inr (is, report) ↦ absurd (short is) ]
        ]
    placed Solve answer planned = refl
    placed Dxf answer planned = refl
    placed (Grow n) answer planned = refl

module _ (one_sketch : OneSketch) (not_both_read : NotBoth) (law : OneJudgement) (laws : LowerLaws) (command : Command) (request : Request) (bytes text : List ℕ) (status : Status) (answer : IsAnswerOf command request bytes status text) where
  -- `complete` ends so for a cause of its own
  no_other_short : command ≢ Complete → ¬ HasOtherCauses command NotWell
  no_other_short other = by command other
    where
      by : (any : Command) → any ≢ Complete → ¬ HasOtherCauses any NotWell
      by Complete never h = never refl
      by any never h = h

  pub not_well_exactly : command ≢ Complete → (status ≡ NotWell) ↔ (IsTrue (plans command) × ((s : Sketch) × IsSketchOf command request bytes s × ¬ IsWell (graph_of s)))
  not_well_exactly other = (
    (λ is. (
        let there = planned_sketch command request bytes text status answer (λ done. (let clash : NotWell ≡ Done = sym is ∙ done in cc)) (λ refused. (let clash : NotWell ≡ Refused = sym is ∙ refused in cc)) (λ same fails. (let clash : NotWell ≡ NotVerified = sym is ∙ fails in cc)) (λ h. no_other_short other (subst (λ z. HasOtherCauses command z) is h)) in
        (there.0, (there.1.0, there.1.1, (not_well_about one_sketch not_both_read law laws command request bytes text status there.1.0 answer there.0 there.1.1).0 is))
        )),
    (λ (planned, (s, about, not_well)). ((not_well_about one_sketch not_both_read law laws command request bytes text status s answer planned about).1 not_well)),
  )

  -- a status of a sketch that is placed comes exactly where its cause stands of that sketch
  placed_exactly : (want : Status) → want ≢ Done → want ≢ Refused → want ≢ NotVerified → want ≢ NotWell → ¬ HasOtherCauses command want → (Why : Sketch → Type 0)
      → ((s : Sketch) → IsTrue (solves command) → IsSketchOf command request bytes s → (status ≡ want) ↔ Why s)
      → (status ≡ want) ↔ (IsTrue (solves command) × ((s : Sketch) × IsSketchOf command request bytes s × Why s))
  placed_exactly want done refused fails short others Why both = (
    (λ is. (
        let there = placed_sketch command request bytes text status answer (λ e. done (sym is ∙ e)) (λ e. refused (sym is ∙ e)) (λ e. fails (sym is ∙ e)) (λ e. short (sym is ∙ e)) (λ h. others (subst (λ z. HasOtherCauses command z) is h)) in
        (there.0, (there.1.0, there.1.1, (both there.1.0 there.0 there.1.1).0 is))
        )),
    (λ (placed, (s, about, why)). ((both s placed about).1 why)),
  )

  module _ (fit : HasFitSize command) (other : command ≢ Measure) where
    no_other_fault : ¬ HasOtherCauses command StepFault
    no_other_fault = by command other
      where
        by : (any : Command) → any ≢ Measure → ¬ HasOtherCauses any StepFault
        by Measure never h = never refl
        by any never h = h

    no_other_passing : ¬ HasOtherCauses command Tolerance
    no_other_passing = by command other
      where
        by : (any : Command) → any ≢ Measure → ¬ HasOtherCauses any Tolerance
        by Measure never h = never refl
        by any never h = h

    pub fault_exactly : (status ≡ StepFault) ↔ (IsTrue (solves command) × ((s : Sketch) × IsSketchOf command request bytes s × ((p : ThePlan) × IsItsPlan request s p × IsFault request s p)))
    fault_exactly = placed_exactly StepFault (λ e. cc) (λ e. cc) (λ e. cc) (λ e. cc) no_other_fault (λ s. (p : ThePlan) × IsItsPlan request s p × IsFault request s p) (λ s placed about. (
        let solved = solved_about one_sketch not_both_read command request bytes text status s answer placed about in
        fault_both law laws solved.0 request s status text solved.2 (sound_about laws command request bytes s fit about)
        ))

    pub beyond_exactly : (status ≡ Tolerance) ↔ (IsTrue (solves command) × ((s : Sketch) × IsSketchOf command request bytes s × ((p : ThePlan) × IsItsPlan request s p × IsBeyond request s p)))
    beyond_exactly = placed_exactly Tolerance (λ e. cc) (λ e. cc) (λ e. cc) (λ e. cc) no_other_passing (λ s. (p : ThePlan) × IsItsPlan request s p × IsBeyond request s p) (λ s placed about. (
        let solved = solved_about one_sketch not_both_read command request bytes text status s answer placed about in
        beyond_both law laws solved.0 request s status text solved.2 (sound_about laws command request bytes s fit about)
        ))

-- no answer is that the words aren't of the form
no_usage : (command : Command) (request : Request) (bytes text : List ℕ) → ¬ IsAnswerOf command request bytes Usage text
no_usage (Tell account) request bytes text answer = answer
no_usage Plan request bytes text answer = answer.2
no_usage Solve request bytes text answer = solved_told Places request answer.0 Usage text answer.2
no_usage Dxf request bytes text answer = solved_told Drawing request answer.0 Usage text answer.2
no_usage Offers request bytes text answer = answer
no_usage Flips request bytes text answer = answer.3
no_usage Session request bytes text answer = answer
no_usage Verify request bytes text answer = answer
no_usage Live request bytes text answer = answer
no_usage Complete request bytes text answer = other_completed Usage answer.2.0 answer.2.2 (λ same. cc) (λ same. cc)
no_usage Measure request bytes text answer = answer.3.1.fault
no_usage (Grow n) request bytes text answer = solved_told Sums request (datum_sketch n) Usage text answer

pub usage_both : (words : List (List ℕ)) (bytes text : List ℕ) (status : Status) → IsOutcome words bytes status text → (status ≡ Usage) ↔ ¬ AreOfForm words
usage_both words bytes text status (inl (request, asks, answer)) =
    ((λ same. absurd (no_usage request.command request bytes text (subst (λ z. IsAnswer request bytes z text) same answer))), (λ not_form. absurd (not_form (request, asks))))
usage_both words bytes text status (inr (not_form, is, text_is)) = ((λ same. not_form), (λ other. is))

refused_so : OneJudgement → LowerLaws → (command : Command) (request : Request) (bytes text : List ℕ) → IsAnswerOf command request bytes Refused text → IsRefusedInput command request bytes
refused_so law laws (Tell account) request bytes text (r, refuses, is) = (r, refuses)
refused_so law laws Verify request bytes text (r, at, is) = (r, at)
refused_so law laws Plan request bytes text (r, refuses, is) = (r, refuses)
refused_so law laws Solve request bytes text (r, refuses, is) = (r, refuses)
refused_so law laws Dxf request bytes text (r, refuses, is) = (r, refuses)
refused_so law laws Offers request bytes text (r, at, is) = (r, at)
refused_so law laws Flips request bytes text (r, at, is) = (r, at)
refused_so law laws Measure request bytes text (r, at, is) = (r, at)
refused_so law laws Complete request bytes text (r, refuses, is) = (r, refuses)
refused_so law laws Session request bytes text (long, is) = long
refused_so law laws (Grow n) request bytes text answer = absurd (solved_told Sums request (datum_sketch n) Refused text answer)
refused_so law laws Live request bytes text (replies, (all, none, long, is)) = (
  long,
  λ (other, (front, some, over)). some (all_answered laws.reply (one_solved law laws) request bytes other replies front all over none),
)

-- a session whose input is too long is refused
too_long : (request : Request) (bytes text : List ℕ) (status : Status) → IsSessionAnswer request bytes status text → 1048576 < length bytes → status ≡ Refused
too_long request bytes text Done (front, over) long = absurd (omega (arith, long, front.fits))
too_long request bytes text Refused answer long = refl
too_long request bytes text status answer long = absurd answer

-- and so is `live`, where no line in time ends it
late_live : (request : Request) (bytes text : List ℕ) (status : Status) → IsLiveAnswer request bytes status text → 4294967295 < length bytes → ¬ EndsInTime request bytes → status ≡ Refused
late_live request bytes text Done (front, over, fits) long never = absurd (never (text, (front, (λ none. (let few = fits none in omega (arith, few, long))), over)))
late_live request bytes text Refused answer long never = refl
late_live request bytes text status answer long never = absurd answer

so_refused_account : NotBoth → (account : Account) (request : Request) (bytes text : List ℕ) (status : Status) → IsAccountAnswer account request bytes status text → (r : Refusal) → Refuses bytes r.line r.code → status ≡ Refused
so_refused_account not_both account request bytes text status answer r refuses =
    elim (told_account account request bytes status text answer) [ inl (done, (s, reads, told)) ↦ absurd (not_both bytes s r.line r.code reads refuses) | inr refused ↦ refused.0 ]

so_refused : OneSketch → NotBoth → LowerLaws → (command : Command) (request : Request) (bytes text : List ℕ) (status : Status) → IsAnswerOf command request bytes status text → IsRefusedInput command request bytes → status ≡ Refused
so_refused one_sketch not_both laws (Tell account) request bytes text status answer (r, refuses) = so_refused_account not_both account request bytes text status answer r refuses
so_refused one_sketch not_both laws Plan request bytes text status answer (r, refuses) =
    elim (told_plan request.order bytes status text answer) [ inl refused ↦ refused.0 | inr (s, reads, told) ↦ absurd (not_both bytes s r.line r.code reads refuses) ]
so_refused one_sketch not_both laws Solve request bytes text status answer (r, refuses) =
    elim (told_solve Places request bytes status text answer) [ inl refused ↦ refused.0 | inr (s, reads, told) ↦ absurd (not_both bytes s r.line r.code reads refuses) ]
so_refused one_sketch not_both laws Dxf request bytes text status answer (r, refuses) =
    elim (told_solve Drawing request bytes status text answer) [ inl refused ↦ refused.0 | inr (s, reads, told) ↦ absurd (not_both bytes s r.line r.code reads refuses) ]
so_refused one_sketch not_both laws Offers request bytes text status answer (r, at) =
    elim (told_offers bytes status text answer) [ inl (done, report) ↦ absurd (not_read_and_refused laws bytes text (refusal_line r) report (r, at, refl)) | inr refused ↦ refused.0 ]
so_refused one_sketch not_both laws Verify request bytes text status answer (r, at) =
    elim (told_claim bytes status text answer) [
      | inl (done, verified) ↦ absurd (not_claimed_and_refused laws bytes verified.0 verified.1 r verified.2 at)
      | inr (inl (fails, failing)) ↦ absurd (not_claimed_and_refused laws bytes failing.0 failing.1 r failing.3 at)
      | inr (inr refused) ↦ refused.0
    ]
so_refused one_sketch not_both laws Flips request bytes text status answer (r, at) =
    elim (told_flips request bytes status text answer) [ inl refused ↦ refused.0 | inr (front, lists, reads, told) ↦ absurd (not_flips_and_refused laws bytes (refusal_line r) front lists reads (r, at, refl)) ]
so_refused one_sketch not_both laws Measure request bytes text status answer (r, at) =
    elim (told_measure request.within bytes status text answer) [ inl refused ↦ refused.0 | inr (f, c, has, measured) ↦ absurd (not_placed_and_refused laws bytes f c r has at) ]
so_refused one_sketch not_both laws Complete request bytes text status answer (r, refuses) =
    elim (told_complete bytes status text answer) [ inl refused ↦ refused.0 | inr (s, reads, told) ↦ absurd (not_both bytes s r.line r.code reads refuses) ]
so_refused one_sketch not_both laws Session request bytes text status answer long = too_long request bytes text status answer long
so_refused one_sketch not_both laws (Grow n) request bytes text status answer refused = absurd refused
so_refused one_sketch not_both laws Live request bytes text status answer (long, never) = late_live request bytes text status answer long never

pub refused_both : OneSketch → NotBoth → OneJudgement → LowerLaws → (command : Command) (request : Request) (bytes text : List ℕ) (status : Status) → IsAnswerOf command request bytes status text
    → (status ≡ Refused) ↔ IsRefusedInput command request bytes
refused_both one_sketch not_both law laws command request bytes text status answer =
    ((λ same. refused_so law laws command request bytes text (subst (λ z. IsAnswerOf command request bytes z text) same answer)), so_refused one_sketch not_both laws command request bytes text status answer)

no_others : (command : Command) (status : Status) → command ≢ Complete → command ≢ Measure → ¬ HasOtherCauses command status
no_others Complete status never other h = never refl
no_others Measure status never other h = other refl
no_others command status never other h = h

-- a command that plans no sketch, checks no claim, completes and measures nothing does its work exactly where its input isn't refused
pub done_unless_refused : OneSketch → NotBoth → OneJudgement → LowerLaws → (command : Command) (request : Request) (bytes text : List ℕ) (status : Status) → IsAnswerOf command request bytes status text
    → ¬ IsTrue (plans command) → command ≢ Verify → command ≢ Complete → command ≢ Measure → (status ≡ Done) ↔ ¬ IsRefusedInput command request bytes
done_unless_refused one_sketch not_both law laws command request bytes text status answer no_plan other_command not_complete not_measure = (
  (λ done refused. (let clash : Done ≡ Refused = sym done ∙ both.1 refused in cc)),
  (λ not_refused. done_at_last status (λ other. no_plan (planned_sketch command request bytes text status answer other (λ refused. not_refused (both.0 refused)) (λ same. absurd (other_command same)) (no_others command status not_complete not_measure)).0)),
)
  where
    both : (status ≡ Refused) ↔ IsRefusedInput command request bytes
    both = refused_both one_sketch not_both law laws command request bytes text status answer

    done_at_last : (any : Status) → ¬ (any ≢ Done) → any ≡ Done
    done_at_last Done never = refl
    done_at_last any never = absurd (never (λ same. cc))

-- a sketch that `plan` reads is planned exactly where its verdict is well
planned_well : OneJudgement → (order : Order) (s : Sketch) (status : Status) (text : List ℕ) → IsPlanOrReport order s status text → (status ≡ Done) ↔ IsWell (graph_of s)
planned_well law order s status text answer =
    elim (told_planned order s status text answer) [
      | inl told ↦ ((λ same. told.1.1.well), (λ well. told.0))
      | inr told ↦ ((λ same. absurd (let clash : NotWell ≡ Done = sym told.0 ∙ same in cc)), (λ well. absurd (still_well law s text well told.1)))
    ]

-- a sketch whose choices `flips` turns is planned exactly where its verdict is well
flipped_well : OneJudgement → (request : Request) (s : Sketch) (lists : List (List Name)) (status : Status) (text : List ℕ) → IsFlipped request s lists status text → (status ≡ Done) ↔ IsWell (graph_of s)
flipped_well law request s lists status text answer =
    elim (told_flipped request s lists status text answer) [
      | inl told ↦ ((λ same. told.1.by.well), (λ well. told.0))
      | inr told ↦ ((λ same. absurd (let clash : NotWell ≡ Done = sym told.0 ∙ same in cc)), (λ well. absurd (still_well law s text well told.1)))
    ]

-- `plan` does its work exactly where its input is read as a sketch whose verdict is well
plan_where_well : OneSketch → NotBoth → OneJudgement → (request : Request) (bytes text : List ℕ) (status : Status) → IsAnswerOf Plan request bytes status text
    → (status ≡ Done) ↔ ((s : Sketch) × IsSketchOf Plan request bytes s × IsWell (graph_of s))
plan_where_well one_sketch not_both law request bytes text status answer =
    elim (told_plan request.order bytes status text answer) [
      | inl (is, line) ↦ (
        (λ done. absurd (let clash : Done ≡ Refused = sym done ∙ is in cc)),
        (λ found. absurd (not_both bytes found.0 line.0.line line.0.code found.1 line.1)),
      )
      | inr (t, reads, told) ↦ (
        (λ done. (t, reads, (planned_well law request.order t status text told).0 done)),
        (λ found. (planned_well law request.order t status text told).1 (subst (λ z. IsWell (graph_of z)) (one_sketch bytes found.0 t found.1 reads) found.2)),
      )
    ]

-- `verify` does its work exactly where the claim is accepted, and names what fails exactly where something does
module _ (laws : LowerLaws) (request : Request) (bytes text : List ℕ) (status : Status) where
  pub verified_exactly : IsAnswerOf Verify request bytes status text
      → (status ≡ Done) ↔ ((f : Front) × (c : Claim) × HasClaim bytes f c × IsAccepted f.sketch (graph_of f.sketch) c)
  verified_exactly answer =
      elim (told_claim bytes status text answer) [
        | inl (done, (f, c, has, accepted, is)) ↦ ((λ same. (f, c, has, accepted)), (λ found. done))
        | inr (inl (fails, failing)) ↦ (
          (λ done. absurd (let clash : Done ≡ NotVerified = sym done ∙ fails in cc)),
          (λ (f, c, has, accepted). absurd (not_accepted_and_failing laws bytes (verified_line c) text (f, c, has, accepted, refl) failing)),
        )
        | inr (inr (refused, (r, at, is))) ↦ (
          (λ done. absurd (let clash : Done ≡ Refused = sym done ∙ refused in cc)),
          (λ (f, c, has, accepted). absurd (not_claimed_and_refused laws bytes f c r has at)),
        )
      ]

  failing_so : IsAnswerOf Verify request bytes status text
      → (status ≡ NotVerified) ↔ ((f : Front) × (c : Claim) × (h : Failure) × HasClaim bytes f c × FailsFirst f.sketch (graph_of f.sketch) c h)
  failing_so answer =
      elim (told_claim bytes status text answer) [
        | inl (done, verified) ↦ (
          (λ fails. absurd (let clash : Done ≡ NotVerified = sym done ∙ fails in cc)),
          (λ (f, c, h, has, first). absurd (not_accepted_and_failing laws bytes text (failure_line f.sketch h) verified (f, c, h, has, first, refl))),
        )
        | inr (inl (fails, (f, c, h, has, first, is))) ↦ ((λ same. (f, c, h, has, first)), (λ found. fails))
        | inr (inr (refused, (r, at, is))) ↦ (
          (λ fails. absurd (let clash : Refused ≡ NotVerified = sym refused ∙ fails in cc)),
          (λ (f, c, h, has, first). absurd (not_claimed_and_refused laws bytes f c r has at)),
        )
      ]

-- no other command but `measure` answers that a claim fails
only_verify : (command : Command) → command ≢ Measure → (request : Request) (bytes text : List ℕ) → IsAnswerOf command request bytes NotVerified text → command ≡ Verify
only_verify (Tell account) other request bytes text answer = absurd answer
only_verify Plan other request bytes text answer = absurd answer.2
only_verify Solve other request bytes text answer = absurd (solved_told Places request answer.0 NotVerified text answer.2)
only_verify Dxf other request bytes text answer = absurd (solved_told Drawing request answer.0 NotVerified text answer.2)
only_verify Offers other request bytes text answer = absurd answer
only_verify Session other request bytes text answer = absurd answer
only_verify Verify other request bytes text answer = refl
only_verify Flips other request bytes text answer = absurd answer.3
only_verify Live other request bytes text answer = absurd answer
only_verify (Grow n) other request bytes text answer = absurd (solved_told Sums request (datum_sketch n) NotVerified text answer)
only_verify Complete other request bytes text answer = absurd (other_completed NotVerified answer.2.0 answer.2.2 (λ same. cc) (λ same. cc))
only_verify Measure other request bytes text answer = absurd (other refl)

pub failing_exactly : LowerLaws → (command : Command) → command ≢ Measure → (request : Request) (bytes text : List ℕ) (status : Status) → IsAnswerOf command request bytes status text
    → (status ≡ NotVerified) ↔ ((command ≡ Verify) × ((f : Front) × (c : Claim) × (h : Failure) × HasClaim bytes f c × FailsFirst f.sketch (graph_of f.sketch) c h))
failing_exactly laws command other request bytes text status answer = (
  (λ fails.
      let is : command ≡ Verify = only_verify command other request bytes text (subst (λ z. IsAnswerOf command request bytes z text) fails answer) in
      (is, (failing_so laws request bytes text status (subst (λ (c : Command). IsAnswerOf c request bytes status text) is answer)).0 fails)),
  (λ (is, found). (failing_so laws request bytes text status (subst (λ (c : Command). IsAnswerOf c request bytes status text) is answer)).1 found),
)

-- and so does `flips` where the flips are read too
flips_where_well : OneJudgement → LowerLaws → (request : Request) (bytes text : List ℕ) (status : Status) → IsAnswerOf Flips request bytes status text
    → (status ≡ Done) ↔ ((s : Sketch) × IsSketchOf Flips request bytes s × IsWell (graph_of s))
flips_where_well law laws request bytes text status answer =
    elim (told_flips request bytes status text answer) [
      | inl (is, line) ↦ (
        (λ done. absurd (let clash : Done ≡ Refused = sym done ∙ is in cc)),
        (λ (s, (g, others, reads, s_is), well). absurd (not_flips_and_refused laws bytes text g others reads line)),
      )
      | inr (f, lists, reads, told) ↦ (
        (λ done. (f.sketch, (f, lists, reads, refl), (flipped_well law request f.sketch lists status text told).0 done)),
        (λ (s, (g, others, reads', s_is), well). (
            let same : s ≡ f.sketch = s_is ∙ ap (λ (z : Front). z.sketch) (laws.front.one_front bytes g f reads'.0 reads.0) in
            (flipped_well law request f.sketch lists status text told).1 (subst (λ z. IsWell (graph_of z)) same well))),
      )
    ]

-- a command that plans a sketch and doesn't solve it
plans_alone : (command : Command) → IsTrue (plans command) → ¬ IsTrue (solves command) → (command ≡ Plan) ⊎ (command ≡ Flips)
plans_alone Plan planned other = inl refl
plans_alone Flips planned other = inr refl
plans_alone Solve planned other = absurd (other refl)
plans_alone Dxf planned other = absurd (other refl)
plans_alone (Grow n) planned other = absurd (other refl)
plans_alone (Tell account) planned other = cc
plans_alone Offers planned other = cc
plans_alone Session planned other = cc
plans_alone Verify planned other = cc
plans_alone Live planned other = cc
plans_alone Complete planned other = cc
plans_alone Measure planned other = cc

-- it does its work exactly where its input is read, and the sketch that it is about is well
pub done_where_well : OneSketch → NotBoth → OneJudgement → LowerLaws → (command : Command) (request : Request) (bytes text : List ℕ) (status : Status) → IsAnswerOf command request bytes status text
    → IsTrue (plans command) → ¬ IsTrue (solves command) → (status ≡ Done) ↔ ((s : Sketch) × IsSketchOf command request bytes s × IsWell (graph_of s))
done_where_well one_sketch not_both_read law laws command request bytes text status answer planned other =
    elim (plans_alone command planned other) [
      | inl is ↦
          subst (λ (c : Command). IsAnswerOf c request bytes status text → (status ≡ Done) ↔ ((s : Sketch) × IsSketchOf c request bytes s × IsWell (graph_of s))) (sym is)
          (plan_where_well one_sketch not_both_read law request bytes text status) answer
      | inr is ↦
          subst (λ (c : Command). IsAnswerOf c request bytes status text → (status ≡ Done) ↔ ((s : Sketch) × IsSketchOf c request bytes s × IsWell (graph_of s))) (sym is)
          (flips_where_well law laws request bytes text status) answer
    ]
