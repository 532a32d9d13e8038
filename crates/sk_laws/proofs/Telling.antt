-- What a command says of a sketch tells the headline of it.
use Rattle.std.proofs.Common.{◌≡◌, ◌≢◌, inl, inr, ℕ, ◌+◌, ◌<◌, List, [], ◌∷◌, ◌++◌, length, refl, ap, sym, subst, ◌∙◌}
use Rattle.std.specs.Prelude.{IsTrue, true, false}
use Rattle.sk_base.specs.declared.Graph.{Graph}
use Rattle.sk_base.specs.declared.Name.{Name}
use Rattle.sk_base.specs.declared.Sketch.{Sketch}
use Rattle.sk_base.specs.SoundGraph.{IsSoundGraph}
use Rattle.sk_base.specs.SoundSketch.{IsSoundSketch}
use Rattle.sk_solve.specs.declared.Placement.{Placement}
use Rattle.sk_solve.specs.declared.Placement.TheVariants.{Fault, Uncarried, Beyond, Turned, Holds}
use Rattle.sk_graph.specs.SketchGraph.{graph_of}
use Rattle.sk_graph.proofs.Soundness.{graph_is_sound}
use Rattle.sk_lang.specs.declared.Front.{Front}
use Rattle.sk_lang.specs.Front.{ReadsFront}
use Rattle.sk_lang.specs.Reading.{Reads}
use Rattle.sk_parts.specs.OwnSketch.{part_sketch}
use Rattle.sk_parts.proofs.Drawing.{part_is_sound}
use Rattle.sk_verdict.specs.declared.Judgement.{Judgement}
use Rattle.sk_verdict.specs.declared.Part.{Part}
use Rattle.sk_tree.specs.declared.Plan.{Plan as ThePlan}
use Rattle.sk_tree.specs.declared.Tree.{Tree}
use Rattle.sk_tree.specs.LegalPlan.{IsLegalPlan}
use Rattle.sk_tree.specs.PlanTree.{IsPlanTree}
use Rattle.sk_plan.specs.Judged.{IsTheJudgement}
use Rattle.sk_plan.specs.Leaves.{HasLeaves}
use Rattle.sk_report.specs.CheckReport.{check_report}
use Rattle.sk_close_by_order.specs.declared.Order.{Order}
use Rattle.sk_request.specs.declared.Account.{Account}
use Rattle.sk_request.specs.declared.Account.TheVariants as accounts
use Rattle.sk_request.specs.declared.Command.{Command}
use Rattle.sk_request.specs.declared.Command.TheVariants.{Tell, Plan, Solve, Dxf, Offers, Session, Grow, Verify, Flips, Live, Complete, Measure}
use Rattle.sk_request.specs.declared.Request.{Request}
use Rattle.sk_cli.specs.declared.Report.{Report}
use Rattle.sk_cli.specs.declared.Report.TheVariants.{Shape}
use Rattle.sk_answers.specs.declared.Status.{Status}
use Rattle.sk_answers.specs.declared.Status.TheVariants.{Done, NotWell}
use Rattle.sk_cli.specs.Accounts.{IsAccount}
use Rattle.sk_laws.specs.Causes.{plans, solves, IsReportOf, IsSketchOf}
use Rattle.sk_cli.specs.FlipsReport.{IsFlipped}
use Rattle.sk_request.specs.Grids.{digits_of}
use Rattle.sk_laws.specs.Headline.{WritesCheckReport, MayStandBefore, UsesEachOnce, TellsPlaces, TellsParts, TellsKept, TellsExcess, Tells}
use Rattle.sk_answers.specs.OffersReport.{IsOffersReport, IsOffersAnswer}
use Rattle.sk_cli.specs.Outcome.{IsAccountOf, IsRefusalText, IsPlanOrReport, IsReportNotWell, IsSolved, IsAnswerOf}
use Rattle.sk_excess.specs.KeptSketch.{kept_sketch}
use Rattle.sk_excess.proofs.KeptSketches.{kept_is_sound}
use Rattle.sk_cli.specs.ExcessReport.{IsExcess, IsExcessReport}
use Rattle.sk_cli.specs.PartsReport.{IsShape, StandsBelow, EachStands, IsBelowPart, ArePartsTold, IsPartsReport}
use Rattle.sk_cli.specs.Solved.{IsPlacedPlan}
use Rattle.sk_cli.specs.Solving.{status_of, placement_words}
use Rattle.sk_laws.proofs.OneOutcome.{OneSketch, NotBoth, OneJudgement, LowerLaws, told_account, told_plan, told_planned, told_flipped}
use Rattle.sk_laws.proofs.Printed.{OneNormal, tells_clusters, part_of_sketch, planned_both, planned_text, unplaced, held_so, solved_text, failed_text}
use Rattle.sk_why.proofs.OverTold.{over_each}
use Rattle.sk_laws.proofs.WhyEnds.{never_short, solved_about, not_well_both, planned_not_well, flips_about, flipped_not_well}

-- what is solved of a sketch for a command
abbrev pub IsSolvedFor : Command → Request → Sketch → Status → List ℕ → Type 0
IsSolvedFor command request s status text = (report : Report) × IsReportOf command report × IsSolved report request s status text

-- what a command says of a sketch, so far as the headline tells it
abbrev pub IsSaid : Command → Request → Sketch → Status → List ℕ → Type 0
IsSaid (Tell account) request s status text = IsSoundSketch s × IsAccount account request s text
IsSaid Plan request s status text = (0 < length s.elements) × IsPlanOrReport request.order s status text
IsSaid Offers request s status text = status ≡ Done → (j : Judgement) × (lines : List ℕ) × IsTheJudgement (graph_of s) j × (text ≡ lines ++ check_report s j)
IsSaid Flips request s status text = (lists : List (List Name)) × IsFlipped request s lists status text
IsSaid Session request s status text = ⊥
IsSaid Live request s status text = ⊥
IsSaid Verify request s status text = Unit {0}
IsSaid Complete request s status text = Unit {0}
IsSaid Measure request s status text = Unit {0}
IsSaid Solve request s status text = IsSolvedFor Solve request s status text
IsSaid Dxf request s status text = IsSolvedFor Dxf request s status text
IsSaid (Grow n) request s status text = IsSolvedFor (Grow n) request s status text

abbrev pub SomeRead : Type 0
SomeRead = (bytes : List ℕ) (s : Sketch) → Reads bytes s → 0 < length s.elements

module _ (one_sketch : OneSketch) (not_both : NotBoth) (laws : LowerLaws) (bytes text : List ℕ) (s : Sketch) where
  not_refused : Reads bytes s → ¬ IsRefusalText bytes text
  not_refused reads (r, refuses, is) = not_both bytes s r.line r.code reads refuses

  account_said : (account : Account) (request : Request) → Reads bytes s → IsAccountOf account request bytes text → IsAccount account request s text
  account_said account request reads (t, reads', told) = subst (λ z. IsAccount account request z text) (one_sketch bytes t s reads' reads) told

  plan_said : (order : Order) (status : Status) → Reads bytes s → (t : Sketch) → Reads bytes t → IsPlanOrReport order t status text → IsPlanOrReport order s status text
  plan_said order status reads t reads' told = subst (λ z. IsPlanOrReport order z status text) (one_sketch bytes t s reads' reads) told

  offers_said : (g : Front) → ReadsFront bytes g → s ≡ g.sketch → IsOffersReport bytes text → (j : Judgement) × (lines : List ℕ) × IsTheJudgement (graph_of s) j × (text ≡ lines ++ check_report s j)
  offers_said g reads s_is (f, os, reads', reads_os, report) =
      let same = ap (λ (z : Front). z.sketch) (laws.front.one_front bytes f g reads' reads) ∙ sym s_is in
      (report.judgement, report.lines, subst (λ z. IsTheJudgement (graph_of z) report.judgement) same report.judged, report.is ∙ ap (λ z. report.lines ++ check_report z report.judgement) same)

done_report : (bytes text : List ℕ) (status : Status) → IsOffersAnswer bytes status text → status ≡ Done → IsOffersReport bytes text
done_report bytes text status answer is = subst (λ z. IsOffersAnswer bytes z text) is answer

-- the answer to an input says it of the sketch that the command is about
pub said_about : OneSketch → NotBoth → SomeRead → LowerLaws → (command : Command) (request : Request) (bytes text : List ℕ) (status : Status) (s : Sketch) → IsAnswerOf command request bytes status text
    → IsSketchOf command request bytes s → IsSaid command request s status text
said_about one_sketch not_both some_read laws (Tell account) request bytes text status s answer reads =
    elim (told_account account request bytes status text answer) [
      | inl report ↦ (laws.sound bytes s reads, account_said one_sketch not_both laws bytes text s account request reads report.1)
      | inr line ↦ absurd (not_refused one_sketch not_both laws bytes text s reads line.1)
    ]
said_about one_sketch not_both some_read laws Plan request bytes text status s answer reads =
    elim (told_plan request.order bytes status text answer) [
      | inl line ↦ absurd (not_refused one_sketch not_both laws bytes text s reads line.1)
      | inr (t, reads', told) ↦ (some_read bytes s reads, plan_said one_sketch not_both laws bytes text s request.order status reads t reads' told)
    ]
said_about one_sketch not_both some_read laws Offers request bytes text status s answer (g, reads, s_is) =
    λ done. offers_said one_sketch not_both laws bytes text s g reads s_is (done_report bytes text status answer done)
said_about one_sketch not_both some_read laws Flips request bytes text status s answer about = flips_about laws request bytes text status s answer about
said_about one_sketch not_both some_read laws Session request bytes text status s answer about = absurd about
said_about one_sketch not_both some_read laws Live request bytes text status s answer about = absurd about
said_about one_sketch not_both some_read laws Verify request bytes text status s answer about = tt
said_about one_sketch not_both some_read laws Complete request bytes text status s answer about = tt
said_about one_sketch not_both some_read laws Measure request bytes text status s answer about = tt
said_about one_sketch not_both some_read laws Solve request bytes text status s answer about = solved_about one_sketch not_both Solve request bytes text status s answer refl about
said_about one_sketch not_both some_read laws Dxf request bytes text status s answer about = solved_about one_sketch not_both Dxf request bytes text status s answer refl about
said_about one_sketch not_both some_read laws (Grow n) request bytes text status s answer about = solved_about one_sketch not_both (Grow n) request bytes text status s answer refl about

-- a legal plan has a tree, whose leaves are the plan's
pub record LegalPlans : Type 0 where
  pub tree : (g : Graph) (p : ThePlan) → IsSoundGraph g → IsLegalPlan g p → p.leaves ≢ [] → (t : Tree) × IsPlanTree p t
  pub leaves : (g : Graph) (p : ThePlan) → IsSoundGraph g → IsLegalPlan g p → (t : Tree) → IsPlanTree p t → HasLeaves t p.leaves

uses_each_once : LegalPlans → (g : Graph) (p : ThePlan) → IsSoundGraph g → IsLegalPlan g p → UsesEachOnce g p
uses_each_once plans g p sound legal = record {
  tree = λ some. plans.tree g p sound legal (λ none. some (sym legal.leaves ∙ none));
  leaves = λ tree is. subst (λ leaves. HasLeaves tree leaves) legal.leaves (plans.leaves g p sound legal tree is);
}

-- no command but `offers` writes anything before the check report
nothing_before : (command : Command) → MayStandBefore command []
nothing_before Offers = tt
nothing_before command = refl

-- a command that solves a sketch writes the check report only where the verdict isn't well
short_placed : (command : Command) (status : Status) → IsTrue (solves command) → WritesCheckReport command status → status ≡ NotWell
short_placed (Tell accounts.Judged) Done placed writes = cc
short_placed Offers Done placed writes = cc
short_placed Plan NotWell placed writes = cc
short_placed Solve NotWell placed writes = refl
short_placed Dxf NotWell placed writes = refl
short_placed (Grow n) NotWell placed writes = refl
short_placed Flips NotWell placed writes = cc
short_placed command status placed writes = absurd writes

short_planned : (status : Status) → WritesCheckReport Plan status → status ≡ NotWell
short_planned NotWell writes = refl
short_planned status writes = absurd writes

short_flips : (status : Status) → WritesCheckReport Flips status → status ≡ NotWell
short_flips NotWell writes = refl
short_flips status writes = absurd writes

done_offers : (status : Status) → WritesCheckReport Offers status → status ≡ Done
done_offers Done writes = refl
done_offers status writes = absurd writes

-- a command that writes no check report, plans nothing and solves nothing tells of parts and of excess at most
parts_at_most : (command : Command) (request : Request) (s : Sketch) (status : Status) (text : List ℕ) → plans command ≡ false → solves command ≡ false → ((any : Status) → ¬ WritesCheckReport command any) → command ≢ Plan
    → (command ≡ Tell accounts.Shapes → TellsParts request s text) → (command ≡ Tell accounts.Excesses → TellsExcess request s text) → Tells command request s status text
parts_at_most command request s status text no_plan no_solving no_report other told excess_told = record {
  clusters = λ writes. absurd (no_report status writes);
  not_well = λ planned. absurd (let clash : false ≡ true = sym no_plan ∙ planned in cc);
  planned = λ same. absurd (other same);
  plan = λ same done. absurd (other same);
  placed = λ placed done. absurd (let clash : false ≡ true = sym no_solving ∙ placed in cc);
  failure = λ placed other short. absurd (let clash : false ≡ true = sym no_solving ∙ placed in cc);
  parts = told;
  excess = excess_told;
}

nothing_told : (command : Command) (request : Request) (s : Sketch) (status : Status) (text : List ℕ) → plans command ≡ false → solves command ≡ false → ((any : Status) → ¬ WritesCheckReport command any) → command ≢ Plan → command ≢ Tell accounts.Shapes → command ≢ Tell accounts.Excesses
    → Tells command request s status text
nothing_told command request s status text no_plan no_solving no_report other no_parts no_excess =
    parts_at_most command request s status text no_plan no_solving no_report other (λ same. absurd (no_parts same)) (λ same. absurd (no_excess same))

-- the shape of a sketch tells where it lies, and holds, or what fails first in it
shape_tells : (request : Request) (s : Sketch) (text : List ℕ) → IsSoundGraph (graph_of s) → IsShape request s text → TellsPlaces request s text
shape_tells request s text sound (p, placement, placed, is) = by_placement placement placed is
  where
    fails : (q : Placement) → IsPlacedPlan request s p q → text ≡ placement_words Shape (digits_of request.bits) s p q → status_of q ≢ Done → status_of q ≢ NotWell → TellsPlaces request s text
    fails q placed is not_done not_short = inr (failed_text Shape request s (status_of q) text (inl (p, q, placed, refl, is)) not_done not_short)

    by_placement : (q : Placement) → IsPlacedPlan request s p q → text ≡ placement_words Shape (digits_of request.bits) s p q → TellsPlaces request s text
    by_placement (Fault f) placed is = fails (Fault f) placed is (λ same. cc) (λ same. cc)
    by_placement (Uncarried f) placed is = fails (Uncarried f) placed is (λ same. cc) (λ same. cc)
    by_placement (Beyond b) placed is = fails (Beyond b) placed is (λ same. cc) (λ same. cc)
    by_placement (Turned t) placed is = fails (Turned t) placed is (λ same. cc) (λ same. cc)
    by_placement (Holds at t) placed is = inl (solved_text Shape request s Done text sound (inl (p, Holds at t, placed, refl, is)) refl)

-- so of each part that isn't over
parts_tell_each : (request : Request) (s : Sketch) → IsSoundSketch s → (parts : List Part) (number : ℕ) (text : List ℕ) → ArePartsTold request s number parts text → EachStands (TellsPlaces request) s number parts text
parts_tell_each request s sound [] number text none = none
parts_tell_each request s sound (p ∷ parts) number text (below, more, here, rest, is) = (below, more, told here, parts_tell_each request s sound parts (number + 1) more rest, is)
  where
    told : IsBelowPart request s p below → StandsBelow (TellsPlaces request) s p below
    told (inl over) = inl over
    told (inr (not_over, shape)) = inr (not_over, shape_tells request (part_sketch s p.elements) below (graph_is_sound (part_sketch s p.elements) (part_is_sound s p.elements sound)) shape)

parts_told : OneNormal → (request : Request) (s : Sketch) (text : List ℕ) → IsSoundSketch s → IsPartsReport request s text → TellsParts request s text
parts_told normal request s text sound report = (
  report.0,
  report.1,
  report.2,
  tells_clusters normal (graph_of s) (graph_is_sound s sound) report.0 report.2,
  parts_tell_each request s sound report.0.parts 1 report.1 report.3,
  report.4,
)

-- where the constraints that stay place the elements of a part that is over, it is told that they hold, or what fails first
kept_tells : (request : Request) (own : Sketch) (text : List ℕ) → IsSoundSketch own → IsExcess request own text → TellsKept request own text
kept_tells request own text sound (left, are, inl measured) =
    let kept = kept_sketch left own in
    let kept_sound = graph_is_sound kept (kept_is_sound left own sound) in
    let placed = measured.placed in
    (left, are, inl (measured.plan, measured.at, measured.tolerance, held_so Shape request kept Done text kept_sound measured.plan placed.plan measured.at measured.tolerance placed.placed, measured.told))
kept_tells request own text sound (left, are, inr (inl faulty)) =
    let kept = kept_sketch left own in
    let fault = placement_words Shape (digits_of request.bits) kept faulty.plan faulty.placement in
    (left, are, inr (inl (fault, failed_text Shape request kept (status_of faulty.placement) fault (inl (faulty.plan, faulty.placement, faulty.placed, refl, refl)) faulty.fails (never_short faulty.placement), faulty.told)))
kept_tells request own text sound (left, are, inr (inr over)) = (left, are, inr (inr over))

excess_told : OneNormal → (request : Request) (s : Sketch) (text : List ℕ) → IsSoundSketch s → IsExcessReport request s text → TellsExcess request s text
excess_told normal request s text sound report = (
  report.0,
  report.1,
  report.2,
  tells_clusters normal (graph_of s) (graph_is_sound s sound) report.0 report.2,
  over_each (IsExcess request) (TellsKept request) s (λ xs below excess. kept_tells request (part_sketch s xs) below (part_is_sound s xs sound) excess) report.0.parts 1 report.1 report.3,
  report.4,
)

module _ (normal : OneNormal) (plans : LegalPlans) (law : OneJudgement) (laws : LowerLaws) (request : Request) (s : Sketch) (status : Status) (text : List ℕ) (sound : IsSoundGraph (graph_of s)) where
  reported : IsReportNotWell s text → (j : Judgement) × (text ≡ check_report s j) × IsTheJudgement (graph_of s) j
  reported (j, judged, not_well, is) = (j, is, judged)

  not_planned : IsPlanOrReport request.order s status text → status ≡ NotWell → IsReportNotWell s text
  not_planned answer short =
      elim (told_planned request.order s status text answer) [ inl (done, report) ↦ absurd (let clash : NotWell ≡ Done = sym short ∙ done in cc) | inr (is, report) ↦ report ]

  judged_there : IsPlanOrReport request.order s status text → (j : Judgement) × IsTheJudgement (graph_of s) j
  judged_there answer =
      elim (told_planned request.order s status text answer) [ inl (done, (p, by, is)) ↦ (by.well.0, by.well.1) | inr (short, (j, judged, not_well, is)) ↦ (j, judged) ]

  placed_tells : (command : Command) → IsTrue (solves command) → command ≢ Plan → command ≢ Tell accounts.Shapes → command ≢ Tell accounts.Excesses → IsSolvedFor command request s status text → Tells command request s status text
  placed_tells command placed other no_parts no_excess (report, of, solved) = record {
    clusters = λ writes. (let told = reported (unplaced report request s status text solved (short_placed command status placed writes)) in
        (told.0, [], nothing_before command, told.1, tells_clusters normal (graph_of s) sound told.0 told.2));
    not_well = λ planned. not_well_both law laws report request s status text solved;
    planned = λ is. absurd (other is);
    plan = λ is. absurd (other is);
    placed = λ is done. (let found = solved_text report request s status text sound solved done in (report, found.0, found.1, found.2, of, found.3, found.4));
    failure = λ is other short. failed_text report request s status text solved other short;
    parts = λ is. absurd (no_parts is);
    excess = λ is. absurd (no_excess is);
  }

  planned_tells : 0 < length s.elements → IsPlanOrReport request.order s status text → Tells Plan request s status text
  planned_tells some answer = record {
    clusters = λ writes. (let told = reported (not_planned answer (short_planned status writes)) in
        (told.0, [], refl, told.1, tells_clusters normal (graph_of s) sound told.0 told.2));
    not_well = λ planned. planned_not_well law request.order s status text answer;
    planned = λ is. (let there = judged_there answer in
        (there.0, there.1, planned_both law s there.0 there.1 (part_of_sketch s sound some there.0 there.1) request.order status text answer));
    plan = λ is done. (let told = planned_text request.order s status text answer done in (told.0, told.1, uses_each_once plans (graph_of s) told.0 sound told.1.legal, told.2));
    placed = λ is done. cc;
    failure = λ is other short. cc;
    parts = λ is. cc;
    excess = λ is. cc;
  }

  checked_tells : (j : Judgement) → IsTheJudgement (graph_of s) j → text ≡ check_report s j → Tells (Tell accounts.Judged) request s status text
  checked_tells j judged is = record {
    clusters = λ writes. (j, [], refl, is, tells_clusters normal (graph_of s) sound j judged);
    not_well = λ planned. cc;
    planned = λ same. cc;
    plan = λ same done. cc;
    placed = λ placed done. cc;
    failure = λ placed other short. cc;
    parts = λ same. cc;
    excess = λ same. cc;
  }

  offers_tells : (status ≡ Done → (j : Judgement) × (lines : List ℕ) × IsTheJudgement (graph_of s) j × (text ≡ lines ++ check_report s j)) → Tells Offers request s status text
  offers_tells said = record {
    clusters = λ writes. (let told = said (done_offers status writes) in (told.0, told.1, tt, told.3, tells_clusters normal (graph_of s) sound told.0 told.2));
    not_well = λ planned. cc;
    planned = λ same. cc;
    plan = λ same done. cc;
    placed = λ placed done. cc;
    failure = λ placed other short. cc;
    parts = λ same. cc;
    excess = λ same. cc;
  }

  flips_not_planned : (lists : List (List Name)) → IsFlipped request s lists status text → status ≡ NotWell → IsReportNotWell s text
  flips_not_planned lists answer short =
      elim (told_flipped request s lists status text answer) [ inl (done, report) ↦ absurd (let clash : NotWell ≡ Done = sym short ∙ done in cc) | inr (is, report) ↦ report ]

  flips_tells : (lists : List (List Name)) → IsFlipped request s lists status text → Tells Flips request s status text
  flips_tells lists answer = record {
    clusters = λ writes. (let told = reported (flips_not_planned lists answer (short_flips status writes)) in
        (told.0, [], refl, told.1, tells_clusters normal (graph_of s) sound told.0 told.2));
    not_well = λ planned. flipped_not_well law request s lists status text answer;
    planned = λ same. cc;
    plan = λ same done. cc;
    placed = λ placed done. cc;
    failure = λ placed other short. cc;
    parts = λ same. cc;
    excess = λ same. cc;
  }

  parts_tell : IsSoundSketch s → IsPartsReport request s text → Tells (Tell accounts.Shapes) request s status text
  parts_tell sketch report =
      parts_at_most (Tell accounts.Shapes) request s status text refl refl (λ status writes. writes) other_command (λ same. parts_told normal request s text sketch report) (λ same. absurd (no_excess same))
    where
      other_command : Tell accounts.Shapes ≢ Plan
      other_command same = cc

      no_excess : Tell accounts.Shapes ≢ Tell accounts.Excesses
      no_excess same = cc

  excess_tells : IsSoundSketch s → IsExcessReport request s text → Tells (Tell accounts.Excesses) request s status text
  excess_tells sketch report =
      parts_at_most (Tell accounts.Excesses) request s status text refl refl (λ status writes. writes) other_command (λ same. absurd (no_parts same)) (λ same. excess_told normal request s text sketch report)
    where
      other_command : Tell accounts.Excesses ≢ Plan
      other_command same = cc

      no_parts : Tell accounts.Excesses ≢ Tell accounts.Shapes
      no_parts same = cc

  pub tells : (command : Command) → IsSaid command request s status text → Tells command request s status text
  tells (Tell accounts.Judged) (sketch, (j, judged, is)) = checked_tells j judged is
  tells Plan (some, answer) = planned_tells some answer
  tells Offers said = offers_tells said
  tells Flips (lists, answer) = flips_tells lists answer
  tells Session said = absurd said
  tells Live said = absurd said
  tells (Tell accounts.Migrated) said = nothing_told (Tell accounts.Migrated) request s status text refl refl (λ status writes. writes) (λ same. cc) (λ same. cc) (λ same. cc)
  tells Verify said = nothing_told Verify request s status text refl refl (λ status writes. writes) (λ same. cc) (λ same. cc) (λ same. cc)
  tells Complete said = nothing_told Complete request s status text refl refl (λ status writes. writes) (λ same. cc) (λ same. cc) (λ same. cc)
  tells Measure said = nothing_told Measure request s status text refl refl (λ status writes. writes) (λ same. cc) (λ same. cc) (λ same. cc)
  tells (Tell accounts.Reasons) said = nothing_told (Tell accounts.Reasons) request s status text refl refl (λ status writes. writes) (λ same. cc) (λ same. cc) (λ same. cc)
  tells (Tell accounts.Spares) said = nothing_told (Tell accounts.Spares) request s status text refl refl (λ status writes. writes) (λ same. cc) (λ same. cc) (λ same. cc)
  tells (Tell accounts.Derived) said = nothing_told (Tell accounts.Derived) request s status text refl refl (λ status writes. writes) (λ same. cc) (λ same. cc) (λ same. cc)
  tells (Tell accounts.Shapes) (sketch, report) = parts_tell sketch report
  tells (Tell accounts.Excesses) (sketch, report) = excess_tells sketch report
  tells Solve solved = placed_tells Solve refl (λ same. cc) (λ same. cc) (λ same. cc) solved
  tells Dxf solved = placed_tells Dxf refl (λ same. cc) (λ same. cc) (λ same. cc) solved
  tells (Grow n) solved = placed_tells (Grow n) refl (λ same. cc) (λ same. cc) (λ same. cc) solved
