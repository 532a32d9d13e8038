-- Words and an input have one outcome at most.
use Rattle.std.proofs.Common.{◌≡◌, ◌≢◌, ◌⊎◌, inl, inr, ℕ, ◌+◌, ◌<◌, ◌≤◌, List, [], ◌∷◌, ◌++◌, length, refl, sym, ap, ◌∙◌, subst, arith, append_assoc}
use Rattle.std.specs.Prelude.{take, drop, ◌==◌, Bool, ℤ, Contains, Option, Some}
use Rattle.sk_base.specs.declared.ConId.{ConId}
use Rattle.sk_base.specs.declared.Constraint.{Constraint}
use Rattle.sk_base.specs.declared.Placed.{Placed}
use Rattle.sk_solve.specs.declared.Placement.{Placement}
use Rattle.sk_solve.specs.declared.Placement.TheVariants.{Holds}
use Rattle.sk_cli.specs.Solved.{IsPlacedPlan}
use Rattle.sk_base.specs.Numbering.{con_exact}
use Rattle.sk_base.proofs.Finding.{found_in}
use Rattle.std.proofs.lemmas.Bool.Decides.{nat_tests}
use Rattle.sk_tolerance.specs.declared.OffBy.{OffBy}
use Rattle.sk_tolerance.specs.declared.Turned.{Turned}
use Rattle.sk_tolerance.specs.Offs.{HasNumber}
use Rattle.sk_tolerance.specs.Telling.{IsCompared}
use Rattle.sk_tolerance.specs.Tolerances.{everything}
use Rattle.sk_tolerance.specs.Turns.{senses, constraint_signs, IsTurned}
use Rattle.sk_tolerance.proofs.Numbered.{number_there}
use Rattle.sk_tolerance.proofs.OneMeasured.{one_beyond, one_first, not_beyond, not_turned}
use Rattle.sk_tolerance.proofs.OneOff.{one_off, one_compared}
use Rattle.sk_excess.specs.KeptSketch.{kept_sketch}
use Rattle.sk_excess.proofs.Choosing.{one_list as one_left}
use Rattle.sk_excess.proofs.KeptSketches.{kept_is_sound}
use Rattle.sk_report.specs.ExcessReport.{excess_head, left_lines, off_line}
use Rattle.sk_answers.specs.OffsThere.{IsOffThere, AreOffsPut}
use Rattle.sk_cli.specs.ExcessReport.{AreOffsTold, IsMeasuredLeft, IsFaultyLeft, IsOverLeft, IsExcess, AreExcessesTold, over_count}
use Rattle.sk_base.specs.declared.Name.{Name}
use Rattle.sk_base.specs.declared.Sketch.{Sketch}
use Rattle.sk_base.specs.declared.Graph.{Graph}
use Rattle.sk_family.specs.Body.{Body, SameBodies}
use Rattle.sk_lines.specs.declared.Code.{Code}
use Rattle.sk_lines.specs.declared.Code.TheVariants.{E20}
use Rattle.sk_lines.specs.declared.Refusal.{Refusal}
use Rattle.sk_lang.specs.Reading.{Reads, Refuses}
use Rattle.sk_report.specs.CheckReport.{part_line, parts_head, check_report}
use Rattle.sk_report.specs.RefusalLine.{refusal_line}
use Rattle.sk_entry.specs.NumberedConstraint.{constraint_of}
use Rattle.sk_graph.specs.SketchGraph.{graph_of}
use Rattle.sk_verdict.specs.declared.Judgement.{Judgement}
use Rattle.sk_verdict.specs.Judging.{IsJudgement}
use Rattle.sk_verdict.specs.declared.Verdict.TheVariants.{Well}
use Rattle.sk_base.specs.SoundSketch.{IsSoundSketch}
use Rattle.sk_base.specs.SoundGraph.{IsSoundGraph}
use Rattle.sk_graph.proofs.Soundness.{graph_is_sound}
use Rattle.sk_family.specs.Clusters.{Clusters, IsSound, bodies}
use Rattle.sk_tree.specs.declared.Plan.{Plan as ThePlan}
use Rattle.sk_plan.specs.Judged.{IsTheJudgement, IsWell}
use Rattle.sk_plan.specs.PlanBy.{IsPlanBy}
use Rattle.sk_plan.proofs.OnePlan.{one_plan_by}
use Rattle.sk_report.specs.PlanReport.{plan_report}
use Rattle.sk_spare.specs.Sparing.{AreSpares}
use Rattle.sk_spare.specs.SpareReport.{spare_report}
use Rattle.sk_close_by_angles.specs.WideReach.{IsWideNormal}
use Rattle.sk_close_by_angles.specs.DerivedText.{derived_text}
use Rattle.sk_solve.specs.declared.Alternative.{Alternative}
use Rattle.sk_solve.specs.Alternatives.{AreAlternatives}
use Rattle.sk_flips.specs.FlipReading.{ReadsFlips}
use Rattle.sk_tolerance.specs.declared.Wanted.TheVariants.{Drawn}
use Rattle.sk_lang.specs.declared.Front.{Front}
use Rattle.sk_lang.specs.Front.{ReadsFront, RefusesFront}
use Rattle.sk_offers.specs.Offering.{starting_table}
use Rattle.sk_offers.specs.declared.OfferLine.{OfferLine}
use Rattle.sk_offers.specs.OfferReading.{ReadsOffers}
use Rattle.sk_cli.specs.FlipsReport.{alternatives_from, IsReportOnFlips, IsFlipped, ReadsSketchAndFlips, RefusesFlipsBehind, IsFlipsRefusal, IsFlipsAnswer}
use Rattle.sk_answers.specs.Fronts.{IsRefusedAt}
use Rattle.sk_answers.specs.OffersReport.{IsReportOnOffers, IsOffersReport, RefusesOffersBehind, IsOffersRefusal, IsOffersAnswer}
use Rattle.sk_offers.proofs.OfferAnswers.{one_list, one_refusal as one_refusal_behind, not_both as not_both_behind}
use Rattle.sk_laws.proofs.OneOffering.{same_lines}
use Rattle.sk_entry.proofs.Growing.{empty_sound}
use Rattle.sk_claims.specs.declared.claim.Claim.{Claim}
use Rattle.sk_verify.specs.declared.failure.Failure.{Failure}
use Rattle.sk_claims.specs.ClaimReading.{ReadsClaim}
use Rattle.sk_verify.specs.Failing.{IsAccepted, FailsFirst}
use Rattle.sk_verify.specs.Texts.{failure_line, verified_line}
use Rattle.sk_verify.proofs.Answering.{not_both as not_both_failing, one_failure, one_untold, untold_or_told}
use Rattle.sk_claims.specs.PlaceReading.{ReadsPlaces}
use Rattle.sk_claims.proofs.ReadPlaces.{one_claim as one_places, one_refusal as one_places_refusal, not_both as not_both_places}
use Rattle.sk_report.specs.FaultLines.{passed_line, turned_line}
use Rattle.sk_answers.specs.MeasureReport.{measured_line, unplaced_line}
use Rattle.sk_report.specs.SolveReport.{tolerance_lines}
use Rattle.sk_answers.specs.MeasureAnswer.{HasPlaces, TellsOffs, IsFaultThere, IsMeasuredThere, IsMeasurement, RefusesPlacesBehind, IsMeasureAnswer, all_numbers}
use Rattle.sk_answers.proofs.MeasureTold.{told_measure, told_measurement, told_fault}
use Rattle.sk_claims.proofs.ClaimSoFar.{one_claim, one_refusal as one_claim_refusal, not_both as not_both_claims}
use Rattle.sk_answers.specs.VerifyAnswer.{HasClaim, IsVerified, IsNotVerified, RefusesClaimBehind, IsVerifyRefusal, IsVerifyAnswer}
use Rattle.sk_close_by_order.specs.declared.Order.{Order}
use Rattle.sk_request.specs.declared.Account.{Account}
use Rattle.sk_request.specs.declared.Account.TheVariants as accounts
use Rattle.sk_request.specs.declared.Command.{Command}
use Rattle.sk_request.specs.declared.Command.TheVariants.{Tell, Plan, Solve, Dxf, Offers, Session, Grow, Verify, Flips, Live, Complete, Measure}
use Rattle.sk_request.specs.declared.Request.{Request}
use Rattle.sk_answers.specs.declared.Status.{Status}
use Rattle.sk_answers.specs.declared.Status.TheVariants.{Done, Refused, NotWell, NotVerified}
use Rattle.sk_cli.specs.declared.Report.{Report}
use Rattle.sk_cli.specs.declared.Report.TheVariants.{Places, Drawing, Sums, Shape}
use Rattle.sk_request.specs.Asking.{HasFitSize}
use Rattle.sk_request.proofs.Sizes.{size_fits}
use Rattle.sk_why.proofs.OverTold.{one_each}
use Rattle.sk_why.proofs.ReasonsTold.{one_report}
use Rattle.sk_gen.specs.DatumSketch.{datum_sketch}
use Rattle.sk_cli.specs.Accounts.{IsAccount}
use Rattle.sk_cli.specs.PartsReport.{IsShape, IsBelowPart, ArePartsTold}
use Rattle.sk_parts.specs.OwnSketch.{part_sketch}
use Rattle.sk_parts.proofs.Drawing.{part_is_sound}
use Rattle.sk_verdict.specs.declared.Part.{Part}
use Rattle.sk_request.specs.Grids.{grid_of, digits_of}
use Rattle.sk_cli.specs.Solving.{IsPlacement, status_of, placement_words}
use Rattle.sk_request.proofs.OneRequest.{same_request}
use Rattle.sk_solve.proofs.OnePlacement.{same_placement, same_alternatives, same_tolerance}
use Rattle.sk_flips.proofs.FlipsSoFar.{same_flips, same_refusal as one_flips_refusal, read_or_refused}
use Rattle.sk_plan.proofs.PlanTrees.{some_plan_tree}
use Rattle.sk_laws.specs.Words.{AskToComplete}
use Rattle.sk_cli.specs.Outcome.{IsAccountOf, IsRefusalText, IsAccountAnswer, IsPlanReport, IsReportNotWell, IsPlanAnswer, IsPlanOrReport, IsSolved, IsSolveAnswer, IsGrowAnswer, IsAnswer, IsAnswerOf, IsOutcome, AreFirstReplies, AreLiveReplies}
use Rattle.sk_cli.specs.LiveAnswer.{IsLiveAnswer, late_line}
use Rattle.sk_laws.proofs.OneLive.{told_live, same_live}
use Rattle.sk_laws.proofs.OneSession.{OneReply, OneSolved, same_replies, front_replies}
use Rattle.sk_cli.specs.SessionAnswer.{IsSessionAnswer, RepliesToFront, EndsSession, at_start}
use Rattle.sk_live_lines.specs.Answering.{HasEnded}

-- the laws of the layers below
abbrev pub OneSketch : Type 0
OneSketch = (bytes : List ℕ) (s t : Sketch) → Reads bytes s → Reads bytes t → s ≡ t

abbrev pub OneRefusal : Type 0
OneRefusal = (bytes : List ℕ) (n m : ℕ) (c d : Code) → Refuses bytes n c → Refuses bytes m d → (n ≡ m) × (c ≡ d)

abbrev pub NotBoth : Type 0
NotBoth = (bytes : List ℕ) (s : Sketch) (n : ℕ) (code : Code) → Reads bytes s → Refuses bytes n code → ⊥

abbrev pub OneJudgement : Type 0
OneJudgement = (g : Graph) (one other : List Body) (j k : Judgement) → SameBodies one other → IsJudgement g one j → IsJudgement g other k → j ≡ k

pub same_judgement : OneJudgement → (g : Graph) (j k : Judgement) → IsTheJudgement g j → IsTheJudgement g k → j ≡ k
same_judgement law g j k first second =
    law g first.normal first.normal j k (λ x. (λ h. h, λ h. h)) (first.every first.normal first.is_normal) (second.every first.normal first.is_normal)

same_refusal : OneRefusal → (bytes text another : List ℕ) → IsRefusalText bytes text → IsRefusalText bytes another → text ≡ another
same_refusal one_refusal bytes text another (r, refuses, is) (q, refuses', is') =
    let same = one_refusal bytes r.line q.line r.code q.code refuses refuses' in
    let make : ℕ → Code → Refusal = λ n c. record { line = n; code = c } in
    is ∙ ap (λ n. refusal_line (make n r.code)) same.0 ∙ ap (λ c. refusal_line (make q.line c)) same.1 ∙ sym is'

no_account : NotBoth → (account : Account) (request : Request) (bytes text another : List ℕ) → IsAccountOf account request bytes text → IsRefusalText bytes another → ⊥
no_account not_both account request bytes text another (s, reads, told) (r, refuses, is) = not_both bytes s r.line r.code reads refuses

-- further laws of the layers below
abbrev SoundRead : Type 0
SoundRead = (bytes : List ℕ) (s : Sketch) → Reads bytes s → IsSoundSketch s

abbrev SoundMade : Type 0
SoundMade = (n : ℕ) → 3 ≤ n → n ≤ 1000 → IsSoundSketch (datum_sketch n)

abbrev OneSpares : Type 0
OneSpares = (g : Graph) (one other : List ConId) → AreSpares g one → AreSpares g other → one ≡ other

abbrev OneDerived : Type 0
OneDerived = (g : Graph) (s : Sketch) (one other : Clusters) → IsSoundGraph g → IsSound one → IsSound other → IsWideNormal g (bodies one) → IsWideNormal g (bodies other)
    → derived_text s one ≡ derived_text s other

pub record FrontLaws : Type 0 where
  pub one_front : (bytes : List ℕ) (f g : Front) → ReadsFront bytes f → ReadsFront bytes g → f ≡ g
  pub one_refusal : (bytes : List ℕ) (n m : ℕ) (c d : Code) → RefusesFront bytes n c → RefusesFront bytes m d → (n ≡ m) × (c ≡ d)
  pub not_both : (bytes : List ℕ) (f : Front) (n : ℕ) (code : Code) → ReadsFront bytes f → RefusesFront bytes n code → ⊥

pub record LowerLaws : Type 0 where
  pub sound : SoundRead
  pub front : FrontLaws
  pub made : SoundMade
  pub reply : OneReply
  pub spares : OneSpares
  pub derived : OneDerived

same_plan_report : (order : Order) (s : Sketch) → IsSoundGraph (graph_of s) → (p q : ThePlan) → IsPlanBy order s p → IsPlanBy order s q → plan_report s p ≡ plan_report s q
same_plan_report order s sound p q first second = ap (λ z. plan_report s z) (one_plan_by order s p q sound first second)

-- a plan, or a report where the verdict isn't well
pub told_planned : (order : Order) (s : Sketch) (status : Status) (text : List ℕ) → IsPlanOrReport order s status text → ((status ≡ Done) × IsPlanReport order s text) ⊎ ((status ≡ NotWell) × IsReportNotWell s text)
told_planned order s Done text answer = inl (refl, answer)
told_planned order s NotWell text answer = inr (refl, answer)
told_planned order s status text answer = absurd answer

pub still_well : OneJudgement → (s : Sketch) (text : List ℕ) → IsWell (graph_of s) → IsReportNotWell s text → ⊥
still_well law s text (k, judged', well) (j, judged, not_well, is) = not_well (subst (λ (z : Judgement). z.verdict ≡ Well) (same_judgement law (graph_of s) k j judged' judged) well)

same_planned : OneJudgement → LowerLaws → (order : Order) (s : Sketch) → IsSoundGraph (graph_of s) → (status other : Status) (text another : List ℕ)
    → IsPlanOrReport order s status text → IsPlanOrReport order s other another → (status ≡ other) × (text ≡ another)
same_planned law laws order s sound status other text another first second =
    elim (told_planned order s status text first) [
      | inl (done, (p, by, is)) ↦ elim (told_planned order s other another second) [
        | inl (done', (q, by', is')) ↦ (done ∙ sym done', is ∙ same_plan_report order s sound p q by by' ∙ sym is')
        | inr (short, report) ↦ absurd (still_well law s another by.well report)
      ]
      | inr (short, (j, judged, not_well, is)) ↦ elim (told_planned order s other another second) [
        | inl (done, report) ↦ absurd (still_well law s text report.1.well (j, judged, not_well, is))
        | inr (short', (k, judged', not_well', is')) ↦ (short ∙ sym short', is ∙ ap (λ z. check_report s z) (same_judgement law (graph_of s) j k judged judged') ∙ sym is')
      ]
    ]

-- a refusal, or what is told of a sketch
pub told_plan : (order : Order) (bytes : List ℕ) (status : Status) (text : List ℕ) → IsPlanAnswer order bytes status text
    → ((status ≡ Refused) × IsRefusalText bytes text) ⊎ ((s : Sketch) × Reads bytes s × IsPlanOrReport order s status text)
told_plan order bytes Refused text answer = inl (refl, answer)
told_plan order bytes status text answer = inr answer

same_plan_answer : OneSketch → OneRefusal → NotBoth → OneJudgement → LowerLaws → (order : Order) (bytes : List ℕ) (status other : Status) (text another : List ℕ)
    → IsPlanAnswer order bytes status text → IsPlanAnswer order bytes other another → (status ≡ other) × (text ≡ another)
same_plan_answer one_sketch one_refusal not_both law laws order bytes status other text another first second =
    elim (told_plan order bytes status text first) [
      | inl (refused, line) ↦ elim (told_plan order bytes other another second) [
        | inl (refused', line') ↦ (refused ∙ sym refused', same_refusal one_refusal bytes text another line line')
        | inr (s, reads, told) ↦ absurd (not_both bytes s line.0.line line.0.code reads line.1)
      ]
      | inr (s, reads, told) ↦ elim (told_plan order bytes other another second) [
        | inl (refused, line) ↦ absurd (not_both bytes s line.0.line line.0.code reads line.1)
        | inr (t, reads', told') ↦
            same_planned law laws order t (graph_is_sound t (laws.sound bytes t reads')) status other text another
            (subst (λ z. IsPlanOrReport order z status text) (one_sketch bytes s t reads reads') told) told'
      ]
    ]

-- one plan of a sketch, and one placement of it
same_placed : (request : Request) (s : Sketch) → IsSoundGraph (graph_of s) → (p p' : ThePlan) (q q' : Placement) → IsPlacedPlan request s p q → IsPlacedPlan request s p' q' → (p ≡ p') × (q ≡ q')
same_placed request s sound p p' q q' placed placed' =
    let plan_is = one_plan_by request.order s p p' sound placed.plan placed'.plan in (
      plan_is,
      same_placement Drawn (grid_of request.bits) request.layout (digits_of request.bits) request.within s p' placed'.plan.legal (some_plan_tree (graph_of s) p' sound placed'.plan.legal) q q'
          (subst (λ (z : ThePlan). IsPlacement (grid_of request.bits) request.layout (digits_of request.bits) request.within s z q) plan_is placed.placed) placed'.placed,
    )

same_solved : OneJudgement → LowerLaws → (report : Report) (request : Request) (s : Sketch) → IsSoundGraph (graph_of s) → (status other : Status) (text another : List ℕ)
    → IsSolved report request s status text → IsSolved report request s other another → (status ≡ other) × (text ≡ another)
same_solved law laws report request s sound status other text another (inl (p, q, placed, is, text_is)) (inl (p', q', placed', is', text_is')) =
    let same = same_placed request s sound p p' q q' placed placed' in (
      is ∙ ap status_of same.1 ∙ sym is',
      text_is ∙ ap (λ z. placement_words report (digits_of request.bits) s z q) same.0
          ∙ ap (λ z. placement_words report (digits_of request.bits) s p' z) same.1 ∙ sym text_is',
    )
same_solved law laws report request s sound status other text another (inl (p, q, placed, is, text_is)) (inr (short, told)) = absurd (still_well law s another placed.plan.well told)
same_solved law laws report request s sound status other text another (inr (short, told)) (inl (p, q, placed, is, text_is)) = absurd (still_well law s text placed.plan.well told)
same_solved law laws report request s sound status other text another (inr (short, (j, judged, not_well, is))) (inr (short', (k, judged', not_well', is'))) =
    (short ∙ sym short', is ∙ ap (λ z. check_report s z) (same_judgement law (graph_of s) j k judged judged') ∙ sym is')

-- a refusal, or what is told of a sketch
pub told_solve : (report : Report) (request : Request) (bytes : List ℕ) (status : Status) (text : List ℕ) → IsSolveAnswer report request bytes status text
    → ((status ≡ Refused) × IsRefusalText bytes text) ⊎ ((s : Sketch) × Reads bytes s × IsSolved report request s status text)
told_solve report request bytes Refused text answer = inl (refl, answer)
told_solve report request bytes status text answer = inr answer

same_solve_answer : OneSketch → OneRefusal → NotBoth → OneJudgement → LowerLaws → (report : Report) (request : Request) (bytes : List ℕ) (status other : Status) (text another : List ℕ)
    → IsSolveAnswer report request bytes status text → IsSolveAnswer report request bytes other another → (status ≡ other) × (text ≡ another)
same_solve_answer one_sketch one_refusal not_both law laws report request bytes status other text another first second =
    elim (told_solve report request bytes status text first) [
      | inl (refused, line) ↦ elim (told_solve report request bytes other another second) [
        | inl (refused', line') ↦ (refused ∙ sym refused', same_refusal one_refusal bytes text another line line')
        | inr (s, reads, told) ↦ absurd (not_both bytes s line.0.line line.0.code reads line.1)
      ]
      | inr (s, reads, told) ↦ elim (told_solve report request bytes other another second) [
        | inl (refused, line) ↦ absurd (not_both bytes s line.0.line line.0.code reads line.1)
        | inr (t, reads', told') ↦
            same_solved law laws report request t (graph_is_sound t (laws.sound bytes t reads')) status other text another
            (subst (λ z. IsSolved report request z status text) (one_sketch bytes s t reads reads') told) told'
      ]
    ]

-- what is answered of a sketch that was made
same_grown : OneJudgement → LowerLaws → (n : ℕ) (request : Request) → HasFitSize (Grow n) → (status other : Status) (text another : List ℕ)
    → IsGrowAnswer n request status text → IsGrowAnswer n request other another → (status ≡ other) × (text ≡ another)
same_grown law laws n request fits status other text another first second =
    same_solved law laws Sums request (datum_sketch n) (graph_is_sound (datum_sketch n) (laws.made n fits.0 fits.1)) status other text another first second

-- the report on some offers
same_report_on : OneJudgement → (s : Sketch) (os : List OfferLine) (text another : List ℕ) → IsReportOnOffers s os text → IsReportOnOffers s os another → text ≡ another
same_report_on law s os text another one other =
    one.is
    ∙ ap (λ lines. lines ++ check_report s one.judgement)
    (same_lines os (starting_table (graph_of s)) (starting_table (graph_of s)) one.board other.board one.lines other.lines refl refl one.answered other.answered)
    ∙ ap (λ j. other.lines ++ check_report s j) (same_judgement law (graph_of s) one.judgement other.judgement one.judged other.judged)
    ∙ sym other.is

same_offers_report : LowerLaws → OneJudgement → (bytes text another : List ℕ) → IsOffersReport bytes text → IsOffersReport bytes another → text ≡ another
same_offers_report laws law bytes text another (f, os, reads, reads_os, report) (g, ps, reads', reads_ps, report') =
    let front_is : f ≡ g = laws.front.one_front bytes f g reads reads' in
    let moved : ReadsOffers (drop g.used bytes) os = subst (λ (z : Front). ReadsOffers (drop z.used bytes) os) front_is reads_os in
    let offers_are : os ≡ ps = one_list (drop g.used bytes) os ps moved reads_ps in
    same_report_on law g.sketch ps text another
    (subst (λ (zs : List OfferLine). IsReportOnOffers g.sketch zs text) offers_are (subst (λ (z : Front). IsReportOnOffers z.sketch os text) front_is report)) report'

-- a line is refused in one way, whatever refuses those behind a sketch in one way
module _ (laws : LowerLaws) (RefusesBehind : Front → List ℕ → ℕ → Code → Type 0) (bytes : List ℕ) where
  same_refused_at : ((front : Front) (rest : List ℕ) (n m : ℕ) (c d : Code) → RefusesBehind front rest n c → RefusesBehind front rest m d → (n ≡ m) × (c ≡ d))
      → (r q : Refusal) → IsRefusedAt RefusesBehind bytes r → IsRefusedAt RefusesBehind bytes q → refusal_line r ≡ refusal_line q
  same_refused_at one_behind r q at at' =
      let same = places at at' in
      let make : ℕ → Code → Refusal = λ n c. record { line = n; code = c } in
      ap (λ n. refusal_line (make n r.code)) same.0 ∙ ap (λ c. refusal_line (make q.line c)) same.1
    where
      places : IsRefusedAt RefusesBehind bytes r → IsRefusedAt RefusesBehind bytes q → (r.line ≡ q.line) × (r.code ≡ q.code)
      places (inl one) (inl other) = laws.front.one_refusal bytes r.line q.line r.code q.code one other
      places (inl one) (inr (g, reads, refuses)) = absurd (laws.front.not_both bytes g r.line r.code reads one)
      places (inr (f, reads, refuses)) (inl other) = absurd (laws.front.not_both bytes f q.line q.code reads other)
      places (inr (f, reads, refuses)) (inr (g, reads', refuses')) =
          let front_is : f ≡ g = laws.front.one_front bytes f g reads reads' in
          one_behind g (drop g.used bytes) r.line q.line r.code q.code
          (subst (λ (z : Front). RefusesBehind z (drop z.used bytes) r.line r.code) front_is refuses) refuses'

  -- nor is one refused where the sketch is read, and what follows isn't refused
  not_refused_at : (f : Front) (r : Refusal) → ReadsFront bytes f → ¬ RefusesBehind f (drop f.used bytes) r.line r.code → ¬ IsRefusedAt RefusesBehind bytes r
  not_refused_at f r reads never (inl refuses) = laws.front.not_both bytes f r.line r.code reads refuses
  not_refused_at f r reads never (inr (g, reads', refuses)) =
      let front_is : g ≡ f = laws.front.one_front bytes g f reads' reads in
      never (subst (λ (z : Front). RefusesBehind z (drop z.used bytes) r.line r.code) front_is refuses)

pub not_read_and_refused : LowerLaws → (bytes text another : List ℕ) → IsOffersReport bytes text → IsOffersRefusal bytes another → ⊥
not_read_and_refused laws bytes text another (f, os, reads, reads_os, report) (r, at, is) =
    not_refused_at laws RefusesOffersBehind bytes f r reads (λ refuses. not_both_behind f.lines (drop f.used bytes) os r.line r.code reads_os refuses) at

pub told_offers : (bytes : List ℕ) (status : Status) (text : List ℕ) → IsOffersAnswer bytes status text → ((status ≡ Done) × IsOffersReport bytes text) ⊎ ((status ≡ Refused) × IsOffersRefusal bytes text)
told_offers bytes Done text answer = inl (refl, answer)
told_offers bytes Refused text answer = inr (refl, answer)
told_offers bytes status text answer = absurd answer

same_offers : LowerLaws → OneJudgement → (bytes : List ℕ) (status other : Status) (text another : List ℕ)
    → IsOffersAnswer bytes status text → IsOffersAnswer bytes other another → (status ≡ other) × (text ≡ another)
same_offers laws law bytes status other text another first second =
    elim (told_offers bytes status text first) [
      | inl (done, report) ↦ elim (told_offers bytes other another second) [
        | inl (done', report') ↦ (done ∙ sym done', same_offers_report laws law bytes text another report report')
        | inr (refused, line) ↦ absurd (not_read_and_refused laws bytes text another report line)
      ]
      | inr (refused, (r, at, is)) ↦ elim (told_offers bytes other another second) [
        | inl (done, report) ↦ absurd (not_read_and_refused laws bytes another text report (r, at, is))
        | inr (refused', (q, at', is')) ↦ (refused ∙ sym refused', is ∙ same_refused_at laws RefusesOffersBehind bytes (λ front. one_refusal_behind front.lines) r q at at' ∙ sym is')
      ]
    ]

-- the sketch and the flips are read, or a line is refused
pub told_flips : (request : Request) (bytes : List ℕ) (status : Status) (text : List ℕ) → IsFlipsAnswer request bytes status text
    → ((status ≡ Refused) × IsFlipsRefusal bytes text) ⊎ ((front : Front) × (lists : List (List Name)) × ReadsSketchAndFlips bytes front lists × IsFlipped request front.sketch lists status text)
told_flips request bytes Refused text answer = inl (refl, answer)
told_flips request bytes status text answer = inr answer

pub not_flips_and_refused : LowerLaws → (bytes text : List ℕ) (front : Front) (lists : List (List Name)) → ReadsSketchAndFlips bytes front lists → ¬ IsFlipsRefusal bytes text
not_flips_and_refused laws bytes text front lists reads (r, at, is) =
    not_refused_at laws RefusesFlipsBehind bytes front r reads.0 (λ refuses. read_or_refused front.lines (drop front.used bytes) lists r.line r.code reads.1 refuses) at

-- what comes of lists of steps, or a report where the verdict isn't well
pub told_flipped : (request : Request) (s : Sketch) (lists : List (List Name)) (status : Status) (text : List ℕ) → IsFlipped request s lists status text
    → ((status ≡ Done) × IsReportOnFlips request s lists text) ⊎ ((status ≡ NotWell) × IsReportNotWell s text)
told_flipped request s lists Done text answer = inl (refl, answer)
told_flipped request s lists NotWell text answer = inr (refl, answer)
told_flipped request s lists status text answer = absurd answer

same_report_on_flips : LowerLaws → (request : Request) (s : Sketch) → IsSoundGraph (graph_of s) → (lists : List (List Name)) (text another : List ℕ)
    → IsReportOnFlips request s lists text → IsReportOnFlips request s lists another → text ≡ another
same_report_on_flips laws request s sound lists text another one other =
    let F = digits_of request.bits in
    let plan_is : one.plan ≡ other.plan = one_plan_by request.order s one.plan other.plan sound one.by other.by in
    let moved : AreAlternatives (grid_of request.bits) request.layout F request.within s other.plan lists one.found =
    subst (λ (p : ThePlan). AreAlternatives (grid_of request.bits) request.layout F request.within s p lists one.found) plan_is one.are in
    let tree = some_plan_tree (graph_of s) other.plan sound other.by.legal in
    let found_is = same_alternatives (grid_of request.bits) request.layout F request.within s other.plan other.by.legal tree lists one.found other.found moved other.are in
    one.is ∙ ap (λ (found : List Alternative). alternatives_from s F 1 found) found_is ∙ sym other.is

same_flipped : OneJudgement → LowerLaws → (request : Request) (s : Sketch) → IsSoundGraph (graph_of s) → (lists : List (List Name)) (status other : Status) (text another : List ℕ)
    → IsFlipped request s lists status text → IsFlipped request s lists other another → (status ≡ other) × (text ≡ another)
same_flipped law laws request s sound lists status other text another first second =
    elim (told_flipped request s lists status text first) [
      | inl (done, report) ↦ elim (told_flipped request s lists other another second) [
        | inl (done', report') ↦ (done ∙ sym done', same_report_on_flips laws request s sound lists text another report report')
        | inr (short, told) ↦ absurd (still_well law s another report.by.well told)
      ]
      | inr (short, (j, judged, not_well, is)) ↦ elim (told_flipped request s lists other another second) [
        | inl (done, report) ↦ absurd (still_well law s text report.by.well (j, judged, not_well, is))
        | inr (short', (k, judged', not_well', is')) ↦ (short ∙ sym short', is ∙ ap (λ z. check_report s z) (same_judgement law (graph_of s) j k judged judged') ∙ sym is')
      ]
    ]

same_flips_answer : OneJudgement → LowerLaws → (request : Request) (bytes : List ℕ) (status other : Status) (text another : List ℕ)
    → IsFlipsAnswer request bytes status text → IsFlipsAnswer request bytes other another → (status ≡ other) × (text ≡ another)
same_flips_answer law laws request bytes status other text another first second =
    elim (told_flips request bytes status text first) [
      | inl (refused, (r, at, is)) ↦ elim (told_flips request bytes other another second) [
        | inl (refused', (q, at', is')) ↦ (refused ∙ sym refused', is ∙ same_refused_at laws RefusesFlipsBehind bytes (λ front. one_flips_refusal front.lines) r q at at' ∙ sym is')
        | inr (g, lists, reads, told) ↦ absurd (not_flips_and_refused laws bytes text g lists reads (r, at, is))
      ]
      | inr (f, lists, reads, told) ↦ elim (told_flips request bytes other another second) [
        | inl (refused, line) ↦ absurd (not_flips_and_refused laws bytes another f lists reads line)
        | inr (g, others, reads', told') ↦
            let front_is : f ≡ g = laws.front.one_front bytes f g reads.0 reads'.0 in
            let lists_are : lists ≡ others = same_flips (drop g.used bytes) lists others (subst (λ (z : Front). ReadsFlips (drop z.used bytes) lists) front_is reads.1) reads'.1 in
            same_flipped law laws request g.sketch (graph_is_sound g.sketch (laws.sound (take g.used bytes) g.sketch reads'.0.reads)) others status other text another
            (subst (λ (zs : List (List Name)). IsFlipped request g.sketch zs status text) lists_are (subst (λ (z : Front). IsFlipped request z.sketch lists status text) front_is told)) told'
      ]
    ]

-- ---- the claim behind a sketch

-- a claim that is accepted, one that fails, or a refusal
pub told_claim : (bytes : List ℕ) (status : Status) (text : List ℕ) → IsVerifyAnswer bytes status text
    → ((status ≡ Done) × IsVerified bytes text) ⊎ (((status ≡ NotVerified) × IsNotVerified bytes text) ⊎ ((status ≡ Refused) × IsVerifyRefusal bytes text))
told_claim bytes Done text answer = inl (refl, answer)
told_claim bytes NotVerified text answer = inr (inl (refl, answer))
told_claim bytes Refused text answer = inr (inr (refl, answer))
told_claim bytes status text answer = absurd answer

module _ (laws : LowerLaws) (bytes : List ℕ) where
  -- one front and one claim
  same_front : (f g : Front) (c d : Claim) → HasClaim bytes f c → HasClaim bytes g d → f ≡ g
  same_front f g c d one other = laws.front.one_front bytes f g one.sketch other.sketch

  same_claim : (f g : Front) (c d : Claim) → HasClaim bytes f c → HasClaim bytes g d → c ≡ d
  same_claim f g c d one other =
      one_claim g.sketch (drop g.used bytes) c d (subst (λ (z : Front). ReadsClaim z.sketch (drop z.used bytes) c) (same_front f g c d one other) one.claimed) other.claimed

  -- the claim of the one is also that of the other
  pub moved_claim : (P : Sketch → Claim → Type 0) (f g : Front) (c d : Claim) → HasClaim bytes f c → HasClaim bytes g d → P f.sketch c → P g.sketch d
  moved_claim P f g c d one other h = subst (λ (z : Claim). P g.sketch z) (same_claim f g c d one other) (subst (λ (z : Front). P z.sketch c) (same_front f g c d one other) h)

  same_verified : (text another : List ℕ) → IsVerified bytes text → IsVerified bytes another → text ≡ another
  same_verified text another (f, c, one, accepted, is) (g, d, other, accepted', is') = is ∙ ap verified_line (same_claim f g c d one other) ∙ sym is'

  same_failing : (text another : List ℕ) → IsNotVerified bytes text → IsNotVerified bytes another → text ≡ another
  same_failing text another (f, c, h, one, fails, is) (g, d, k, other, fails', is') =
      let moved = moved_claim (λ s claim. FailsFirst s (graph_of s) claim h) f g c d one other fails in
      let failure : h ≡ k = one_failure g.sketch (graph_of g.sketch) d h k moved fails' in
      is ∙ ap (λ (z : Front). failure_line z.sketch h) (same_front f g c d one other) ∙ ap (λ (z : Failure). failure_line g.sketch z) failure ∙ sym is'

  pub not_accepted_and_failing : (text another : List ℕ) → IsVerified bytes text → IsNotVerified bytes another → ⊥
  not_accepted_and_failing text another (f, c, one, accepted, is) (g, d, k, other, fails, is') =
      not_both_failing g.sketch (graph_of g.sketch) d k (moved_claim (λ s claim. IsAccepted s (graph_of s) claim) f g c d one other accepted) fails

  -- a claim that is read isn't refused
  pub not_claimed_and_refused : (f : Front) (c : Claim) (r : Refusal) → HasClaim bytes f c → IsRefusedAt RefusesClaimBehind bytes r → ⊥
  not_claimed_and_refused f c r has =
      not_refused_at laws RefusesClaimBehind bytes f r has.sketch (not_both_claims f.sketch f.lines (drop f.used bytes) c r.line r.code has.claimed)

  same_claim_refusal : (text another : List ℕ) → IsVerifyRefusal bytes text → IsVerifyRefusal bytes another → text ≡ another
  same_claim_refusal text another (r, at, is) (q, at', is') =
      is ∙ same_refused_at laws RefusesClaimBehind bytes (λ front. one_claim_refusal front.sketch front.lines) r q at at' ∙ sym is'

  same_verify : (status other : Status) (text another : List ℕ) → IsVerifyAnswer bytes status text → IsVerifyAnswer bytes other another → (status ≡ other) × (text ≡ another)
  same_verify status other text another first second =
      elim (told_claim bytes status text first) [
        | inl (done, verified) ↦ elim (told_claim bytes other another second) [
          | inl (done', verified') ↦ (done ∙ sym done', same_verified text another verified verified')
          | inr (inl (fails, failing)) ↦ absurd (not_accepted_and_failing text another verified failing)
          | inr (inr (refused, (r, at, is))) ↦ absurd (not_claimed_and_refused verified.0 verified.1 r verified.2 at)
        ]
        | inr (inl (fails, failing)) ↦ elim (told_claim bytes other another second) [
          | inl (done, verified) ↦ absurd (not_accepted_and_failing another text verified failing)
          | inr (inl (fails', failing')) ↦ (fails ∙ sym fails', same_failing text another failing failing')
          | inr (inr (refused, (r, at, is))) ↦ absurd (not_claimed_and_refused failing.0 failing.1 r failing.3 at)
        ]
        | inr (inr (refused, (r, at, is))) ↦ elim (told_claim bytes other another second) [
          | inl (done, verified) ↦ absurd (not_claimed_and_refused verified.0 verified.1 r verified.2 at)
          | inr (inl (fails, failing)) ↦ absurd (not_claimed_and_refused failing.0 failing.1 r failing.3 at)
          | inr (inr (refused', (q, at', is'))) ↦ (refused ∙ sym refused', same_claim_refusal text another (r, at, is) (q, at', is'))
        ]
      ]

-- what `solve` writes of a sound sketch in a session
pub one_solved : OneJudgement → LowerLaws → OneSolved
one_solved law laws request s sound status other text another first second = (same_solved law laws Places request s (graph_is_sound s sound) status other text another first second).1

-- a session's replies, or that the input is too long
pub told_session : (request : Request) (bytes : List ℕ) (status : Status) (text : List ℕ) → IsSessionAnswer request bytes status text
    → ((status ≡ Done) × ((front : RepliesToFront request bytes text) × HasEnded EndsSession front.state front.after)) ⊎ ((status ≡ Refused) × (1048576 < length bytes) × (text ≡ refusal_line (record { line = 0; code = E20 })))
told_session request bytes Done text answer = inl (refl, answer)
told_session request bytes Refused text answer = inr (refl, answer.0, answer.1)
told_session request bytes status text answer = absurd answer

same_session : OneJudgement → LowerLaws → (request : Request) (bytes : List ℕ) (status other : Status) (text another : List ℕ)
    → IsSessionAnswer request bytes status text → IsSessionAnswer request bytes other another → (status ≡ other) × (text ≡ another)
same_session law laws request bytes status other text another first second =
    elim (told_session request bytes status text first) [
      | inl (done, (front, over)) ↦ elim (told_session request bytes other another second) [
        | inl (done', (front', over')) ↦ (
          done ∙ sym done',
          same_replies laws.reply (one_solved law laws) request
              front.before front.after front'.before front'.after (at_start request.order) (at_start request.order) empty_sound (record { order = refl; edits = refl; count = refl })
              (sym front.parts ∙ front'.parts) front.state front'.state text another front.replied front'.replied over over',
        )
        | inr (refused, long, is) ↦ absurd (omega (arith, long, front.fits))
      ]
      | inr (refused, long, is) ↦ elim (told_session request bytes other another second) [
        | inl (done, (front, over)) ↦ absurd (omega (arith, long, front.fits))
        | inr (refused', long', is') ↦ (refused ∙ sym refused', is ∙ sym is')
      ]
    ]

-- what a session has answered where it stops is a front of its outcome's text
pub front_of_outcome : OneJudgement → LowerLaws → (words : List (List ℕ)) (bytes text whole : List ℕ) (status : Status) → AreFirstReplies words bytes text → IsOutcome words bytes status whole
    → (behind : List ℕ) × (whole ≡ text ++ behind)
front_of_outcome law laws words bytes text whole status (request, asks, is, front) (inr usage) = absurd (usage.0 (request, asks))
front_of_outcome law laws words bytes text whole status (request, asks, is, front) (inl (other, asks', answer)) =
    let same : other ≡ request = same_request words other request asks' asks in
    let answer' : IsSessionAnswer request bytes status whole =
    subst (λ (c : Command). IsAnswerOf c request bytes status whole) is (subst (λ (r : Request). IsAnswer r bytes status whole) same answer) in
    elim (told_session request bytes status whole answer') [
      | inl (done, (all, over)) ↦
          front_replies laws.reply (one_solved law laws) request
          front.before front.after all.before all.after (at_start request.order) (at_start request.order) empty_sound (record { order = refl; edits = refl; count = refl })
          (sym front.parts ∙ all.parts) front.state all.state text whole front.replied all.replied over
      | inr (refused, long, why) ↦ absurd (omega (arith, long, front.fits))
    ]

-- and so is what `live` has answered
pub front_of_live : OneJudgement → LowerLaws → (words : List (List ℕ)) (bytes text whole : List ℕ) (status : Status) → AreLiveReplies words bytes text → IsOutcome words bytes status whole
    → (behind : List ℕ) × (whole ≡ text ++ behind)
front_of_live law laws words bytes text whole status (request, asks, is, front) (inr usage) = absurd (usage.0 (request, asks))
front_of_live law laws words bytes text whole status (request, asks, is, front) (inl (other, asks', answer)) =
    let same : other ≡ request = same_request words other request asks' asks in
    let answer' : IsLiveAnswer request bytes status whole =
    subst (λ (c : Command). IsAnswerOf c request bytes status whole) is (subst (λ (r : Request). IsAnswer r bytes status whole) same answer) in
    elim (told_live request bytes status whole answer') [
      | inl (done, (all, over, fits)) ↦
          front_replies laws.reply (one_solved law laws) request
          front.before front.after all.before all.after (at_start request.order) (at_start request.order) empty_sound (record { order = refl; edits = refl; count = refl })
          (sym front.parts ∙ all.parts) front.state all.state text whole front.replied all.replied over
      | inr (refused, (replies, (all, none, long, why))) ↦
          let first = front_replies laws.reply (one_solved law laws) request
          front.before front.after all.before all.after (at_start request.order) (at_start request.order) empty_sound (record { order = refl; edits = refl; count = refl })
          (sym front.parts ∙ all.parts) front.state all.state text replies front.replied all.replied (subst (λ (zs : List (List ℕ)). HasEnded EndsSession all.state zs) (sym none) tt) in
          (first.0 ++ late_line, why ∙ ap (λ (z : List ℕ). z ++ late_line) first.1 ∙ append_assoc text first.0 late_line)
    ]

-- the shape of a sketch
same_shape : OneJudgement → LowerLaws → (request : Request) (s : Sketch) → IsSoundSketch s → (text another : List ℕ) → IsShape request s text → IsShape request s another → text ≡ another
same_shape law laws request s sound text another (p, q, placed, is) (p', q', placed', is') =
    (same_solved law laws Shape request s (graph_is_sound s sound) (status_of q) (status_of q') text another (inl (p, q, placed, refl, is)) (inl (p', q', placed', refl, is'))).1

same_below : OneJudgement → LowerLaws → (request : Request) (s : Sketch) → IsSoundSketch s → (p : Part) (text another : List ℕ) → IsBelowPart request s p text → IsBelowPart request s p another → text ≡ another
same_below law laws request s sound p text another (inl (over, is)) (inl (over', is')) = is ∙ sym is'
same_below law laws request s sound p text another (inl (over, is)) (inr (not, shape)) = absurd (not over)
same_below law laws request s sound p text another (inr (not, shape)) (inl (over, is)) = absurd (not over)
same_below law laws request s sound p text another (inr (not, shape)) (inr (not', shape')) =
    same_shape law laws request (part_sketch s p.elements) (part_is_sound s p.elements sound) text another shape shape'

same_parts : OneJudgement → LowerLaws → (request : Request) (s : Sketch) → IsSoundSketch s → (parts : List Part) (number : ℕ) (text another : List ℕ)
    → ArePartsTold request s number parts text → ArePartsTold request s number parts another → text ≡ another
same_parts law laws request s sound [] number text another is is' = is ∙ sym is'
same_parts law laws request s sound (p ∷ parts) number text another (below, more, told, rest, is) (below', more', told', rest', is') =
    is ∙ ap (λ t. (part_line s number p ++ t) ++ more) (same_below law laws request s sound p below below' told told')
    ∙ ap (λ t. (part_line s number p ++ below') ++ t) (same_parts law laws request s sound parts (number + 1) more more' rest rest') ∙ sym is'

-- the constraint of that number is the sketch's
pub of_that_number : (s : Sketch) (k : ConId) (c : Constraint) → constraint_of s k ≡ Some c → Contains s.constraints c × (c.number ≡ k)
of_that_number s k c is = (let found = found_in (λ (x : Constraint). x.number.0 == k.0) s.constraints c is in (found.0, con_exact c.number k (grind (arith, nat_tests, found.1))))

-- how far off a constraint is
pub same_off : (at : Placed) (own : Sketch) (k : ConId) (off other : OffBy) → IsOffThere at own k off → IsOffThere at own k other → off ≡ other
same_off at own k off other there there' =
    let found = of_that_number own k there.constraint there.numbered in
    let has : HasNumber (graph_of own) k = subst (λ (j : ConId). HasNumber (graph_of own) j) found.1 (number_there own there.constraint found.0) in
    let one : there.constraint ≡ there'.constraint = (let first = there.numbered in let second = there'.numbered in cc) in
    let same = one_off at (graph_of own) k has off other there.by there'.by in
    let turned = one_compared (senses own at k there.constraint.rule) off.turned other.turned there.turned
    (subst (λ (c : Constraint). IsCompared (senses own at k c.rule) other.turned) (sym one) there'.turned) in
    let make : Bool → ℤ → Option Turned → OffBy = λ l n t. record { length = l; off = n; turned = t } in
    ap (λ l. make l off.off off.turned) same.0 ∙ ap (λ n. make other.length n off.turned) same.1 ∙ ap (λ t. make other.length other.off t) turned

pub same_offs : (line : ConId → OffBy → List ℕ) (at : Placed) (own : Sketch) (left : List ConId) (text another : List ℕ) → AreOffsPut line own at left text → AreOffsPut line own at left another → text ≡ another
same_offs line at own [] text another is is' = is ∙ sym is'
same_offs line at own (k ∷ left) text another (off, more, there, rest, is) (off', more', there', rest', is') =
    is ∙ ap (λ o. line k o ++ more) (same_off at own k off off' there there')
    ∙ ap (λ t. line k off' ++ t) (same_offs line at own left more more' rest rest') ∙ sym is'

-- what is told of what is left out of a part that is over
same_left : (request : Request) (own : Sketch) → IsSoundSketch own → (left : List ConId) (text another : List ℕ)
    → IsMeasuredLeft request own left text ⊎ (IsFaultyLeft request own left text ⊎ IsOverLeft own left text)
    → IsMeasuredLeft request own left another ⊎ (IsFaultyLeft request own left another ⊎ IsOverLeft own left another) → text ≡ another
same_left request own own_sound left text another = by
  where
    sound : IsSoundGraph (graph_of (kept_sketch left own))
    sound = graph_is_sound (kept_sketch left own) (kept_is_sound left own own_sound)

    not_both_ways : (m : IsMeasuredLeft request own left text) (f : IsFaultyLeft request own left another) → ⊥
    not_both_ways m f = (
        let same = same_placed request (kept_sketch left own) sound m.plan f.plan (Holds m.at m.tolerance) f.placement m.placed f.placed in
        f.fails (ap status_of (sym same.1)))

    nor_so : (f : IsFaultyLeft request own left text) (m : IsMeasuredLeft request own left another) → ⊥
    nor_so f m = (
        let same = same_placed request (kept_sketch left own) sound m.plan f.plan (Holds m.at m.tolerance) f.placement m.placed f.placed in
        f.fails (ap status_of (sym same.1)))

    by : IsMeasuredLeft request own left text ⊎ (IsFaultyLeft request own left text ⊎ IsOverLeft own left text) → IsMeasuredLeft request own left another ⊎ (IsFaultyLeft request own left another ⊎ IsOverLeft own left another) → text ≡ another
    by (inl m) (inl n) = (
        let same = same_placed request (kept_sketch left own) sound m.plan n.plan (Holds m.at m.tolerance) (Holds n.at n.tolerance) m.placed n.placed in
        let places : m.at ≡ n.at = (let is = same.1 in cc) in
        same_offs (off_line own request.within) n.at own left text another (subst (λ (z : Placed). AreOffsTold request.within own z left text) places m.told) n.told)
    by (inl m) (inr (inl f)) = absurd (not_both_ways m f)
    by (inl m) (inr (inr over)) = absurd (over.0 m.placed.plan.well)
    by (inr (inl f)) (inl m) = absurd (nor_so f m)
    by (inr (inl f)) (inr (inl h)) = (
        let same = same_placed request (kept_sketch left own) sound f.plan h.plan f.placement h.placement f.placed h.placed in
        f.told ∙ ap (λ z. left_lines own left ++ placement_words Shape (digits_of request.bits) (kept_sketch left own) z f.placement) same.0
        ∙ ap (λ z. left_lines own left ++ placement_words Shape (digits_of request.bits) (kept_sketch left own) h.plan z) same.1 ∙ sym h.told)
    by (inr (inl f)) (inr (inr over)) = absurd (over.0 f.placed.plan.well)
    by (inr (inr over)) (inl m) = absurd (over.0 m.placed.plan.well)
    by (inr (inr over)) (inr (inl f)) = absurd (over.0 f.placed.plan.well)
    by (inr (inr over)) (inr (inr other)) = over.1 ∙ sym other.1

same_excess : (request : Request) (own : Sketch) → IsSoundSketch own → (text another : List ℕ) → IsExcess request own text → IsExcess request own another → text ≡ another
same_excess request own sound text another (left, are, told) (left', are', told') =
    let same = one_left (graph_of own) (graph_is_sound own sound) left left' are are' in
    same_left request own sound left' text another (subst (λ (z : List ConId). IsMeasuredLeft request own z text ⊎ (IsFaultyLeft request own z text ⊎ IsOverLeft own z text)) same told) told'

-- ---- the places behind a sketch

-- the first fault is one
same_fault : (limit : ℕ) (s : Sketch) (at : Placed) (status other : Status) (line another : List ℕ) → IsFaultThere limit s at status line → IsFaultThere limit s at other another → (status ≡ other) × (line ≡ another)
same_fault limit s at status other line another first second =
    elim (told_fault limit s at status line first) [
      | inl (is, (all, drawn, none)) ↦ elim (told_fault limit s at other another second) [
        | inl (is', (all', drawn', none')) ↦ (is ∙ sym is', none ∙ sym none')
        | inr (inl (is', (b, beyond, line_is))) ↦ absurd (not_beyond at (everything (graph_of s)) limit b all beyond)
        | inr (inr (is', (all', (sign, turned, line_is)))) ↦ absurd (not_turned (constraint_signs s at s.constraints) sign drawn turned)
      ]
      | inr (inl (is, (b, beyond, line_is))) ↦ elim (told_fault limit s at other another second) [
        | inl (is', (all', drawn', none')) ↦ absurd (not_beyond at (everything (graph_of s)) limit b all' beyond)
        | inr (inl (is', (d, beyond', line_is'))) ↦ (is ∙ sym is', line_is ∙ ap (passed_line s) (one_beyond at (everything (graph_of s)) limit b d beyond beyond') ∙ sym line_is')
        | inr (inr (is', (all', (sign, turned, line_is')))) ↦ absurd (not_beyond at (everything (graph_of s)) limit b all' beyond)
      ]
      | inr (inr (is, (all, (sign, turned, line_is)))) ↦ elim (told_fault limit s at other another second) [
        | inl (is', (all', drawn', none')) ↦ absurd (not_turned (constraint_signs s at s.constraints) sign drawn' turned)
        | inr (inl (is', (b, beyond, line_is'))) ↦ absurd (not_beyond at (everything (graph_of s)) limit b all beyond)
        | inr (inr (is', (all', (other_sign, turned', line_is')))) ↦ (
          is ∙ sym is',
          line_is ∙ ap turned_line (one_first IsTurned (constraint_signs s at s.constraints) sign other_sign turned turned') ∙ sym line_is',
        )
      ]
    ]

same_offs_told : (s : Sketch) (at : Placed) (text another : List ℕ) → TellsOffs s at text → TellsOffs s at another → text ≡ another
same_offs_told s at text another one other =
    one.is ∙ ap (λ lines. lines ++ tolerance_lines s one.least) (same_offs (measured_line s) at s (all_numbers s) one.lines other.lines one.offs other.offs)
    ∙ ap (λ t. other.lines ++ tolerance_lines s t) (same_tolerance at (graph_of s) one.least other.least one.tolerance other.tolerance) ∙ sym other.is

same_there : (limit : ℕ) (s : Sketch) (at : Placed) (status other : Status) (text another : List ℕ) → IsMeasuredThere limit s at status text → IsMeasuredThere limit s at other another → (status ≡ other) × (text ≡ another)
same_there limit s at status other text another one second =
    let fault = same_fault limit s at status other one.line second.line one.fault second.fault in
    (fault.0, one.is ∙ ap (λ offs. offs ++ one.line) (same_offs_told s at one.offs second.offs one.told second.told) ∙ ap (λ line. second.offs ++ line) fault.1 ∙ sym second.is)

same_measurement : (limit : ℕ) (s : Sketch) (c : Claim) (status other : Status) (text another : List ℕ) → IsMeasurement limit s c status text → IsMeasurement limit s c other another → (status ≡ other) × (text ≡ another)
same_measurement limit s c status other text another first second =
    elim (told_measurement limit s c status text first) [
      | inl (fails, (e, untold, is)) ↦ elim (told_measurement limit s c other another second) [
        | inl (fails', (d, untold', is')) ↦ (fails ∙ sym fails', is ∙ ap (unplaced_line s) (one_untold c s.elements e d untold untold') ∙ sym is')
        | inr (told, there) ↦ absurd (untold_or_told c s.elements e untold told)
      ]
      | inr (told, there) ↦ elim (told_measurement limit s c other another second) [
        | inl (fails, (e, untold, is)) ↦ absurd (untold_or_told c s.elements e untold told)
        | inr (told', there') ↦ same_there limit s c.at status other text another there there'
      ]
    ]

module _ (laws : LowerLaws) (bytes : List ℕ) where
  -- one front and the places behind it
  pub same_places : (P : Sketch → Claim → Type 0) (f g : Front) (c d : Claim) → HasPlaces bytes f c → HasPlaces bytes g d → P f.sketch c → P g.sketch d
  same_places P f g c d one other h =
      let front_is : f ≡ g = laws.front.one_front bytes f g one.sketch other.sketch in
      let claim_is : c ≡ d = one_places g.sketch (drop g.used bytes) c d (subst (λ (z : Front). ReadsPlaces z.sketch (drop z.used bytes) c) front_is one.placed) other.placed in
      subst (λ (z : Claim). P g.sketch z) claim_is (subst (λ (z : Front). P z.sketch c) front_is h)

  -- places that are read aren't refused
  pub not_placed_and_refused : (f : Front) (c : Claim) (r : Refusal) → HasPlaces bytes f c → IsRefusedAt RefusesPlacesBehind bytes r → ⊥
  not_placed_and_refused f c r has =
      not_refused_at laws RefusesPlacesBehind bytes f r has.sketch (not_both_places f.sketch f.lines (drop f.used bytes) c r.line r.code has.placed)

  same_measure : (limit : ℕ) (status other : Status) (text another : List ℕ) → IsMeasureAnswer limit bytes status text → IsMeasureAnswer limit bytes other another → (status ≡ other) × (text ≡ another)
  same_measure limit status other text another first second =
      elim (told_measure limit bytes status text first) [
        | inl (refused, (r, at, is)) ↦ elim (told_measure limit bytes other another second) [
          | inl (refused', (q, at', is')) ↦ (refused ∙ sym refused', is ∙ same_refused_at laws RefusesPlacesBehind bytes (λ front. one_places_refusal front.sketch front.lines) r q at at' ∙ sym is')
          | inr (g, d, has, measured) ↦ absurd (not_placed_and_refused g d r has at)
        ]
        | inr (f, c, has, measured) ↦ elim (told_measure limit bytes other another second) [
          | inl (refused, (r, at, is)) ↦ absurd (not_placed_and_refused f c r has at)
          | inr (g, d, has', measured') ↦
              same_measurement limit g.sketch d status other text another (same_places (λ s claim. IsMeasurement limit s claim status text) f g c d has has' measured) measured'
        ]
      ]

-- an account of a sketch
same_account : OneJudgement → LowerLaws → (account : Account) (request : Request) (s : Sketch) → IsSoundSketch s → (text another : List ℕ) → IsAccount account request s text → IsAccount account request s another → text ≡ another
same_account law laws accounts.Judged request s sound text another (j, judged, is) (k, judged', is') = is ∙ ap (λ z. check_report s z) (same_judgement law (graph_of s) j k judged judged') ∙ sym is'
same_account law laws accounts.Spares request s sound text another (ks, are, is) (ls, are', is') = is ∙ ap (λ z. spare_report s z) (laws.spares (graph_of s) ks ls are are') ∙ sym is'
same_account law laws accounts.Migrated request s sound text another is is' = is ∙ sym is'
same_account law laws accounts.Derived request s sound text another (f, f_sound, normal, is) (h, h_sound, normal', is') =
    is ∙ laws.derived (graph_of s) s f h (graph_is_sound s sound) f_sound h_sound normal normal' ∙ sym is'
same_account law laws accounts.Shapes request s sound text another (j, lines, judged, told, is) (k, lines', judged', told', is') =
    let same = same_judgement law (graph_of s) j k judged judged' in
    let moved : ArePartsTold request s 1 k.parts lines = subst (λ (z : Judgement). ArePartsTold request s 1 z.parts lines) same told in
    is ∙ ap (λ z. parts_head z ++ lines) same ∙ ap (λ t. parts_head k ++ t) (same_parts law laws request s sound k.parts 1 lines lines' moved told') ∙ sym is'
same_account law laws accounts.Excesses request s sound text another (j, lines, judged, told, is) (k, lines', judged', told', is') =
    let same = same_judgement law (graph_of s) j k judged judged' in
    let moved : AreExcessesTold request s 1 k.parts lines = subst (λ (z : Judgement). AreExcessesTold request s 1 z.parts lines) same told in
    is ∙ ap (λ z. excess_head (over_count z.parts) ++ lines) same ∙ ap (λ t. excess_head (over_count k.parts) ++ t)
    (one_each (IsExcess request) s (λ xs one other. same_excess request (part_sketch s xs) (part_is_sound s xs sound) one other) k.parts 1 lines lines' moved told') ∙ sym is'
same_account law laws accounts.Reasons request s sound text another told told' = one_report s sound text another told told'

same_account_of : OneSketch → OneJudgement → LowerLaws → (account : Account) (request : Request) (bytes text another : List ℕ) → IsAccountOf account request bytes text → IsAccountOf account request bytes another → text ≡ another
same_account_of one_sketch law laws account request bytes text another (s, reads, told) (t, reads', told') =
    same_account law laws account request t (laws.sound bytes t reads') text another (subst (λ z. IsAccount account request z text) (one_sketch bytes s t reads reads') told) told'

-- an account or a refusal
pub told_account : (account : Account) (request : Request) (bytes : List ℕ) (status : Status) (text : List ℕ) → IsAccountAnswer account request bytes status text
    → ((status ≡ Done) × IsAccountOf account request bytes text) ⊎ ((status ≡ Refused) × IsRefusalText bytes text)
told_account account request bytes Done text answer = inl (refl, answer)
told_account account request bytes Refused text answer = inr (refl, answer)
told_account account request bytes status text answer = absurd answer

same_accounted : OneSketch → OneRefusal → NotBoth → OneJudgement → LowerLaws → (account : Account) (request : Request) (bytes : List ℕ) (status other : Status) (text another : List ℕ)
    → IsAccountAnswer account request bytes status text → IsAccountAnswer account request bytes other another → (status ≡ other) × (text ≡ another)
same_accounted one_sketch one_refusal not_both law laws account request bytes status other text another first second =
    elim (told_account account request bytes status text first) [
      | inl done ↦ elim (told_account account request bytes other another second) [
        | inl done' ↦ (done.0 ∙ sym done'.0, same_account_of one_sketch law laws account request bytes text another done.1 done'.1)
        | inr refused ↦ absurd (no_account not_both account request bytes text another done.1 refused.1)
      ]
      | inr refused ↦ elim (told_account account request bytes other another second) [
        | inl done ↦ absurd (no_account not_both account request bytes another text done.1 refused.1)
        | inr refused' ↦ (refused.0 ∙ sym refused'.0, same_refusal one_refusal bytes text another refused.1 refused'.1)
      ]
    ]

same_answer : OneSketch → OneRefusal → NotBoth → OneJudgement → LowerLaws → (command : Command) → command ≢ Complete → (request : Request) → HasFitSize command → (bytes : List ℕ) (status other : Status) (text another : List ℕ)
    → IsAnswerOf command request bytes status text → IsAnswerOf command request bytes other another → (status ≡ other) × (text ≡ another)
same_answer one_sketch one_refusal not_both law laws (Tell account) other_command request fit bytes status other text another first second =
    same_accounted one_sketch one_refusal not_both law laws account request bytes status other text another first second
same_answer one_sketch one_refusal not_both law laws Offers other_command request fit bytes status other text another first second = same_offers laws law bytes status other text another first second
same_answer one_sketch one_refusal not_both law laws Verify other_command request fit bytes status other text another first second = same_verify laws bytes status other text another first second
same_answer one_sketch one_refusal not_both law laws Flips other_command request fit bytes status other text another first second = same_flips_answer law laws request bytes status other text another first second
same_answer one_sketch one_refusal not_both law laws Live other_command request fit bytes status other text another first second =
    same_live laws.reply (one_solved law laws) request bytes status other text another first second
same_answer one_sketch one_refusal not_both law laws Session other_command request fit bytes status other text another first second = same_session law laws request bytes status other text another first second
same_answer one_sketch one_refusal not_both law laws Solve other_command request fit bytes status other text another first second =
    same_solve_answer one_sketch one_refusal not_both law laws Places request bytes status other text another first second
same_answer one_sketch one_refusal not_both law laws Dxf other_command request fit bytes status other text another first second =
    same_solve_answer one_sketch one_refusal not_both law laws Drawing request bytes status other text another first second
same_answer one_sketch one_refusal not_both law laws (Grow n) other_command request fit bytes status other text another first second = same_grown law laws n request fit status other text another first second
same_answer one_sketch one_refusal not_both law laws Plan other_command request fit bytes status other text another first second =
    same_plan_answer one_sketch one_refusal not_both law laws request.order bytes status other text another first second
same_answer one_sketch one_refusal not_both law laws Measure other_command request fit bytes status other text another first second = same_measure laws bytes request.within status other text another first second
same_answer one_sketch one_refusal not_both law laws Complete other_command request fit bytes status other text another first second = absurd (other_command refl)

pub same_outcome : OneSketch → OneRefusal → NotBoth → OneJudgement → LowerLaws → (words : List (List ℕ)) → ¬ AskToComplete words → (bytes : List ℕ) (status other : Status) (text another : List ℕ)
    → IsOutcome words bytes status text → IsOutcome words bytes other another → (status ≡ other) × (text ≡ another)
same_outcome one_sketch one_refusal not_both law laws words other_words bytes status other text another first second =
    elim first [
      | inl asked ↦ elim second [
        | inl asked' ↦
            let request_is = same_request words asked.0 asked'.0 asked.1 asked'.1 in
            same_answer one_sketch one_refusal not_both law laws asked'.0.command (λ same. other_words (asked'.0, asked'.1, same)) asked'.0 (size_fits words asked'.0 asked'.1) bytes status other text another
            (subst (λ (z : Request). IsAnswer z bytes status text) request_is asked.2) asked'.2
        | inr usage ↦ absurd (usage.0 (asked.0, asked.1))
      ]
      | inr usage ↦ elim second [
        | inl asked ↦ absurd (usage.0 (asked.0, asked.1))
        | inr usage' ↦ (usage.1 ∙ sym usage'.1, usage.2 ∙ sym usage'.2)
      ]
    ]
