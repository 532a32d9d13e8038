-- Words and an input have an outcome.
use Rattle.std.proofs.Common.{◌≢◌, ◌⊎◌, inl, inr, refl, ℕ, ◌≤◌, ◌<◌, List, [], ◌++◌, length, take, arith}
use Rattle.std.specs.Prelude.{drop, Contains}
use Rattle.sk_base.specs.declared.Name.{Name}
use Rattle.sk_base.specs.declared.ConId.{ConId}
use Rattle.sk_base.specs.declared.Sketch.{Sketch}
use Rattle.sk_base.specs.SoundSketch.{IsSoundSketch}
use Rattle.sk_lines.specs.declared.Code.{Code}
use Rattle.sk_lang.specs.declared.Front.{Front}
use Rattle.sk_lines.specs.declared.Refusal.{Refusal}
use Rattle.sk_lang.specs.Front.{ReadsFront, RefusesFront}
use Rattle.sk_lang.specs.Canonical.{canonical_2}
use Rattle.sk_lang.specs.Reading.{Reads, Refuses}
use Rattle.sk_graph.specs.SketchGraph.{graph_of}
use Rattle.sk_graph.proofs.Soundness.{graph_is_sound}
use Rattle.sk_gen.specs.DatumSketch.{datum_sketch}
use Rattle.sk_close_by_order.specs.declared.Order.{Order}
use Rattle.sk_close_by_order.specs.declared.Order.TheVariants.{First}
use Rattle.sk_close_by_order.specs.Orders.{place_of, next_call, place_below}
use Rattle.sk_verdict.specs.declared.Judgement.{Judgement}
use Rattle.sk_tree.specs.declared.Plan.{Plan as ThePlan}
use Rattle.sk_plan.specs.Judged.{IsTheJudgement}
use Rattle.sk_plan.specs.PlanBy.{fresh, IsPlanBy}
use Rattle.sk_offers.specs.Offering.{starting_table}
use Rattle.sk_report.specs.CheckReport.{part_line, parts_head, check_report}
use Rattle.sk_report.specs.PlanReport.{plan_report}
use Rattle.sk_report.specs.RefusalLine.{refusal_line}
use Rattle.sk_spare.specs.SpareReport.{spare_report}
use Rattle.sk_close_by_angles.specs.DerivedText.{derived_text}
use Rattle.sk_verify.specs.Texts.{failure_line, verified_line}
use Rattle.sk_claims.proofs.ClaimSoFar.{some_answer as claim_or_refused}
use Rattle.sk_claims.proofs.FittingClaims.{read_claim_fits}
use Rattle.sk_verify.proofs.SomeFailures.{accepted_or_failing}
use Rattle.sk_claims.proofs.ReadPlaces.{some_answer as places_or_refused}
use Rattle.sk_claims.proofs.FittingPlaces.{read_places_fit}
use Rattle.sk_complete.specs.CompletionText.{completion_text}
use Rattle.sk_why.proofs.OverTold.{some_each}
use Rattle.sk_why.proofs.ReasonsTold.{some_report}
use Rattle.sk_cli.specs.CompleteAnswer.{completion_status}
use Rattle.sk_answers.proofs.MeasureTold.{as_answer}
use Rattle.sk_laws.proofs.SomeMeasures.{some_measurement}
use Rattle.sk_laws.proofs.SomeCompletions.{some_completion, given_so}
use Rattle.sk_request.specs.declared.Account.{Account}
use Rattle.sk_request.specs.declared.Account.TheVariants as accounts
use Rattle.sk_request.specs.declared.Command.{Command}
use Rattle.sk_request.specs.declared.Command.TheVariants.{Tell, Plan, Solve, Dxf, Offers, Session, Grow, Verify, Flips, Live, Complete, Measure}
use Rattle.sk_tolerance.specs.declared.Wanted.TheVariants.{Drawn}
use Rattle.sk_solve.specs.declared.Placement.{Placement}
use Rattle.sk_cli.specs.Solved.{IsPlacedPlan}
use Rattle.sk_solve.specs.declared.Placement.TheVariants.{Fault, Uncarried, Beyond, Turned, Holds}
use Rattle.sk_request.specs.declared.Request.{Request}
use Rattle.sk_cli.specs.declared.Report.{Report}
use Rattle.sk_cli.specs.declared.Report.TheVariants.{Places, Drawing, Sums, Shape}
use Rattle.sk_answers.specs.declared.Status.{Status}
use Rattle.sk_answers.specs.declared.Status.TheVariants.{Done, Refused, Usage, NotWell, NotVerified}
use Rattle.sk_cli.specs.Accounts.{IsAccount}
use Rattle.sk_cli.specs.FlipsReport.{alternatives_from, IsFlipped}
use Rattle.sk_request.specs.Grids.{grid_of, digits_of}
use Rattle.sk_cli.specs.Outcome.{usage_line, IsReportNotWell, IsSolved, IsSolveAnswer, IsAnswerOf, IsAccountAnswer, IsOutcome}
use Rattle.sk_cli.specs.Solving.{status_of, placement_words}
use Rattle.sk_offers.proofs.FittingOffers.{read_fit}
use Rattle.sk_cli.proofs.FlipsAnswered.{answers_flips}
use Rattle.sk_flips.proofs.FlipsSoFar.{some_reading}
use Rattle.sk_offers.proofs.OfferAnswers.{some_answer as read_or_refused}
use Rattle.sk_request.specs.Asking.{HasFitSize}
use Rattle.sk_request.proofs.Sizes.{size_fits}
use Rattle.sk_laws.proofs.SomeAnswers.{some_answers}
use Rattle.sk_laws.proofs.SomePlacements.{enough_digits, some_placement, some_alternatives}
use Rattle.sk_plan.proofs.SomePlans.{judgement_there, some_plan_by}
use Rattle.sk_request.proofs.SomeRequests.{form_decided}
use Rattle.sk_laws.proofs.SomeSpares.{some_spares}
use Rattle.sk_close_by_angles.proofs.SomeWide.{some_wide}
use Rattle.sk_session.proofs.SomeReplies.{GivenByLanguage, well_or_not}
use Rattle.sk_cli.specs.PartsReport.{IsBelowPart}
use Rattle.sk_cli.proofs.PartsTold.{never_reported, below_sound, over_or_not, some_told}
use Rattle.sk_answers.proofs.OffLines.{some_offs}
use Rattle.sk_cli.proofs.ExcessTold.{left_numbered, kept_places}
use Rattle.sk_cli.specs.ExcessReport.{IsExcess, IsMeasuredLeft, IsFaultyLeft, IsOverLeft, IsPartExcess, over_count}
use Rattle.sk_excess.specs.LeftOut.{AreLeftOut}
use Rattle.sk_excess.specs.KeptSketch.{kept_sketch}
use Rattle.sk_excess.proofs.Choosing.{some_left_out}
use Rattle.sk_excess.proofs.KeptSketches.{kept_is_sound}
use Rattle.sk_parts.proofs.OverParts.{over_is_one}
use Rattle.sk_report.specs.ExcessReport.{excess_head, left_lines, off_line, stays_over}
use Rattle.sk_parts.specs.OwnSketch.{part_sketch}
use Rattle.sk_parts.proofs.Drawing.{part_is_sound}
use Rattle.sk_parts.proofs.Sharing.{some_judged}
use Rattle.sk_verdict.specs.declared.Part.{Part}
use Rattle.sk_laws.proofs.SomeSessions.{SomeToSolve, some_session, some_live}

-- the laws of the layers below
pub record LawsBelow : Type 0 where
  pub answer : (bytes : List ℕ) → ((s : Sketch) × Reads bytes s) ⊎ ((n : ℕ) × ((code : Code) × Refuses bytes n code))
  pub front : (bytes : List ℕ) → ((f : Front) × ReadsFront bytes f) ⊎ ((n : ℕ) × ((code : Code) × RefusesFront bytes n code))
  pub sound : (bytes : List ℕ) (s : Sketch) → Reads bytes s → IsSoundSketch s
  pub some : (bytes : List ℕ) (s : Sketch) → Reads bytes s → 0 < length s.elements
  pub language : GivenByLanguage
  pub to_solve : SomeToSolve
  pub made : (n : ℕ) → 3 ≤ n → n ≤ 1000 → IsSoundSketch (datum_sketch n)

the_judgement_of : (s : Sketch) → IsSoundSketch s → (j : Judgement) × IsTheJudgement (graph_of s) j
the_judgement_of s sketch = judgement_there place_of next_call place_below (fresh First) (graph_of s) (graph_is_sound s sketch)

-- the plan by the order, or a verdict that isn't well
planned : (order : Order) (s : Sketch) → IsSoundSketch s → 0 < length s.elements
    → ((p : ThePlan) × IsPlanBy order s p) ⊎ ((text : List ℕ) × IsReportNotWell s text)
planned order s sketch some =
    let j = the_judgement_of s sketch in
    elim (well_or_not j.0.verdict) [
      | inr never ↦ inr (check_report s j.0, (j.0, j.1, never, refl))
      | inl well ↦ inl (some_plan_by order s sketch some (j.0, j.1, well))
    ]

abbrev Answered : Command → Request → List ℕ → Type 0
Answered command request bytes = (status : Status) × (text : List ℕ) × IsAnswerOf command request bytes status text

-- what is placed of a sketch; its status isn't a refusal's
solved : (report : Report) (request : Request) (s : Sketch) → IsSoundSketch s → 0 < length s.elements → (status : Status) × (text : List ℕ) × (status ≢ Refused) × IsSolved report request s status text
solved report request s sketch some =
    elim (planned request.order s sketch some) [
      | inr (text, never) ↦ (NotWell, text, (λ e. cc), inr (refl, never))
      | inl (p, by) ↦ (
          let q = some_placement Drawn (grid_of request.bits) request.layout (digits_of request.bits) request.within s p (enough_digits request.bits) sketch (graph_is_sound s sketch) by.legal in
          (status_of q.0, placement_words report (digits_of request.bits) s p q.0, no_refusal q.0, inl (p, q.0, record { plan = by; placed = q.1 }, refl, refl)))
    ]
  where
    no_refusal : (q : Placement) → status_of q ≢ Refused
    no_refusal (Fault f) e = cc
    no_refusal (Uncarried f) e = cc
    no_refusal (Beyond b) e = cc
    no_refusal (Turned t) e = cc
    no_refusal (Holds at t) e = cc

-- what is told below a part
some_below : (request : Request) (s : Sketch) → IsSoundSketch s → (j : Judgement) → IsTheJudgement (graph_of s) j → (p : Part) → Contains j.parts p → (below : List ℕ) × IsBelowPart request s p below
some_below request s sketch j judged p p_in =
    elim (over_or_not p) [
      | inl over ↦ ([], inl (over, refl))
      | inr not_over ↦ (
          let found = solved Shape request (part_sketch s p.elements) (part_is_sound s p.elements sketch) (some_judged s j sketch judged p p_in) in
          (found.1, below_sound request s sketch j judged p p_in not_over found.0 found.1 found.3))
    ]

-- what is told of the own sketch of a part that is over, as the kept sketch is placed, or is over still
some_left : (request : Request) (own : Sketch) → IsSoundSketch own → 0 < length own.elements → (left : List ConId) → AreLeftOut (graph_of own) left
    → (text : List ℕ) × (IsMeasuredLeft request own left text ⊎ (IsFaultyLeft request own left text ⊎ IsOverLeft own left text))
some_left request own sound some left are =
    let found = solved Shape request (kept_sketch left own) (kept_is_sound left own sound) some in
    elim found.3 [
      | inr (short, never) ↦ (left_lines own left ++ stays_over, inr (inr ((λ well. never_reported (kept_sketch left own) found.1 well never), refl)))
      | inl (p, q, placed, status_is, is) ↦ placed_so p q placed
    ]
  where
    fails : (p : ThePlan) (q : Placement) → IsPlacedPlan request (kept_sketch left own) p q → status_of q ≢ Done → (text : List ℕ) × (IsMeasuredLeft request own left text ⊎ (IsFaultyLeft request own left text ⊎ IsOverLeft own left text))
    fails p q placed not_done = (
      left_lines own left ++ placement_words Shape (digits_of request.bits) (kept_sketch left own) p q,
      inr (inl (record { plan = p; placement = q; placed = placed; fails = not_done; told = refl })),
    )

    placed_so : (p : ThePlan) (q : Placement) → IsPlacedPlan request (kept_sketch left own) p q → (text : List ℕ) × (IsMeasuredLeft request own left text ⊎ (IsFaultyLeft request own left text ⊎ IsOverLeft own left text))
    placed_so p (Fault f) placed = fails p (Fault f) placed (λ e. cc)
    placed_so p (Uncarried f) placed = fails p (Uncarried f) placed (λ e. cc)
    placed_so p (Beyond b) placed = fails p (Beyond b) placed (λ e. cc)
    placed_so p (Turned t) placed = fails p (Turned t) placed (λ e. cc)
    placed_so p (Holds at t) placed = (
        let told = some_offs (off_line own request.within) own sound at (kept_places own sound request left p at t placed) left (left_numbered own sound left are) in
        (told.0, inl (record { plan = p; at = at; tolerance = t; placed = placed; told = told.1 })))

-- what is told of a part
some_part : (request : Request) (s : Sketch) → IsSoundSketch s → (j : Judgement) → IsTheJudgement (graph_of s) j → (p : Part) → Contains j.parts p → (number : ℕ) → (here : List ℕ) × IsPartExcess request s number p here
some_part request s sketch j judged p p_in number =
    elim (over_or_not p) [
      | inr not_over ↦ ([], inr (not_over, refl))
      | inl over ↦ (
          let own = part_sketch s p.elements in
          let own_sound = part_is_sound s p.elements sketch in
          let left = some_left_out (graph_of own) (graph_is_sound own own_sound) (over_is_one s j p sketch judged p_in over) in
          let told = some_left request own own_sound (some_judged s j sketch judged p p_in) left.0 left.1 in
          (part_line s number p ++ told.0, inl (over, (told.0, (left.0, left.1, told.1), refl))))
    ]

-- what is told of a sketch
some_account : (account : Account) (request : Request) (s : Sketch) → IsSoundSketch s → (text : List ℕ) × IsAccount account request s text
some_account accounts.Judged request s sketch = let j = the_judgement_of s sketch in (check_report s j.0, (j.0, j.1, refl))
some_account accounts.Spares request s sketch = let found = some_spares (graph_of s) (graph_is_sound s sketch) in (spare_report s found.0, (found.0, found.1, refl))
some_account accounts.Migrated request s sketch = (canonical_2 s, refl)
some_account accounts.Derived request s sketch = let found = some_wide (graph_of s) (graph_is_sound s sketch) in (derived_text s found.family, (found.family, found.sound, found.normal, refl))
some_account accounts.Shapes request s sketch =
    let j = the_judgement_of s sketch in
    let told = some_told request s j.0.parts (λ p p_in. some_below request s sketch j.0 j.1 p p_in) 1 in
    (parts_head j.0 ++ told.0, (j.0, told.0, j.1, told.1, refl))
some_account accounts.Excesses request s sketch =
    let j = the_judgement_of s sketch in
    let told = some_each (IsExcess request) s j.0.parts (λ p number p_in. some_part request s sketch j.0 j.1 p p_in number) 1 in
    (excess_head (over_count j.0.parts) ++ told.0, (j.0, told.0, j.1, told.1, refl))
some_account accounts.Reasons request s sketch = some_report s sketch

accounted : LawsBelow → (account : Account) (request : Request) (bytes : List ℕ) → (status : Status) × (text : List ℕ) × IsAccountAnswer account request bytes status text
accounted laws account request bytes =
    elim (laws.answer bytes) [
      | inl (s, reads) ↦ (let told = some_account account request s (laws.sound bytes s reads) in (Done, told.0, (s, reads, told.1)))
      | inr (n, (code, refuses)) ↦ (let r : Refusal = record { line = n; code = code } in (Refused, refusal_line r, (r, refuses, refl)))
    ]

planned_answer : LawsBelow → (request : Request) (bytes : List ℕ) → Answered Plan request bytes
planned_answer laws request bytes =
    elim (laws.answer bytes) [
      | inr (n, (code, refuses)) ↦ (let r : Refusal = record { line = n; code = code } in (Refused, refusal_line r, (r, refuses, refl)))
      | inl (s, reads) ↦ elim (planned request.order s (laws.sound bytes s reads) (laws.some bytes s reads)) [
        | inl (p, by) ↦ (Done, plan_report s p, (s, reads, (p, by, refl)))
        | inr (text, never) ↦ (NotWell, text, (s, reads, never))
      ]
    ]

solve_answer : LawsBelow → (report : Report) (request : Request) (bytes : List ℕ) → (status : Status) × (text : List ℕ) × IsSolveAnswer report request bytes status text
solve_answer laws report request bytes =
    elim (laws.answer bytes) [
      | inr (n, (code, refuses)) ↦ (let r : Refusal = record { line = n; code = code } in (Refused, refusal_line r, (r, refuses, refl)))
      | inl (s, reads) ↦ (
          let found = solved report request s (laws.sound bytes s reads) (laws.some bytes s reads) in
          (found.0, found.1, lifted found.0 found.1 found.2 (s, reads, found.3)))
    ]
  where
    lifted : (status : Status) (text : List ℕ) → status ≢ Refused → (s : Sketch) × Reads bytes s × IsSolved report request s status text → IsSolveAnswer report request bytes status text
    lifted Refused text never h = absurd (never refl)
    lifted status text never h = h

offers_answer : LawsBelow → (request : Request) (bytes : List ℕ) → Answered Offers request bytes
offers_answer laws request bytes =
    elim (laws.front bytes) [
      | inr (n, (code, refuses)) ↦ (let r : Refusal = record { line = n; code = code } in (Refused, refusal_line r, (r, inl refuses, refl)))
      | inl (f, front) ↦ elim (read_or_refused f.lines (drop f.used bytes)) [
        | inr (n, (code, refuses)) ↦ (let r : Refusal = record { line = n; code = code } in (Refused, refusal_line r, (r, inr (f, front, refuses), refl)))
        | inl (offers, reads) ↦ (
            let s = f.sketch in
            let j = the_judgement_of s (laws.sound (take f.used bytes) s front.reads) in
            let has = some_answers (starting_table (graph_of s)) offers (read_fit (drop f.used bytes) offers reads) in (
              Done,
              has.lines ++ check_report s j.0,
              (
                f,
                offers,
                front,
                reads,
                record {
                  board = has.board;
                  lines = has.lines;
                  judgement = j.0;
                  answered = has.answered;
                  judged = j.1;
                  is = refl;
                },
              ),
            ))
      ]
    ]

-- the claim behind a sketch is accepted, or something of it fails first
verify_answer : LawsBelow → (request : Request) (bytes : List ℕ) → Answered Verify request bytes
verify_answer laws request bytes =
    elim (laws.front bytes) [
      | inr (n, (code, refuses)) ↦ (let r : Refusal = record { line = n; code = code } in (Refused, refusal_line r, (r, inl refuses, refl)))
      | inl (f, front) ↦ elim (claim_or_refused f.sketch f.lines (drop f.used bytes)) [
        | inr (n, (code, refuses)) ↦ (let r : Refusal = record { line = n; code = code } in (Refused, refusal_line r, (r, inr (f, front, refuses), refl)))
        | inl (claim, reads) ↦ (
            let s = f.sketch in
            let sketch = laws.sound (take f.used bytes) s front.reads in
            let fits = read_claim_fits s (drop f.used bytes) claim reads in
            elim (accepted_or_failing s (graph_of s) refl (graph_is_sound s sketch) claim fits) [
              | inl accepted ↦ (Done, verified_line claim, (f, claim, record { sketch = front; claimed = reads }, accepted, refl))
              | inr (failure, fails) ↦ (NotVerified, failure_line s failure, (f, claim, failure, record { sketch = front; claimed = reads }, fails, refl))
            ])
      ]
    ]

flips_answer : LawsBelow → (request : Request) (bytes : List ℕ) → Answered Flips request bytes
flips_answer laws request bytes =
    elim (laws.front bytes) [
      | inr (n, (code, refuses)) ↦ (let r : Refusal = record { line = n; code = code } in (Refused, refusal_line r, (r, inl refuses, refl)))
      | inl (f, front) ↦ elim (some_reading f.lines (drop f.used bytes)) [
        | inr (n, (code, refuses)) ↦ (let r : Refusal = record { line = n; code = code } in (Refused, refusal_line r, (r, inr (f, front, refuses), refl)))
        | inl (lists, reads) ↦ (
            let found = some_flipped request f.sketch (laws.sound (take f.used bytes) f.sketch front.reads) (laws.some (take f.used bytes) f.sketch front.reads) lists in
            (found.0, found.1, answers_flips request bytes found.0 found.1 f lists (front, reads) found.2))
      ]
    ]
  where
    some_flipped : (request : Request) (s : Sketch) → IsSoundSketch s → 0 < length s.elements → (lists : List (List Name)) → (status : Status) × (text : List ℕ) × IsFlipped request s lists status text
    some_flipped request s sketch some lists =
        elim (planned request.order s sketch some) [
          | inr (text, never) ↦ (NotWell, text, never)
          | inl (p, by) ↦ (
              let F = digits_of request.bits in
              let found = some_alternatives (grid_of request.bits) request.layout F request.within s p (enough_digits request.bits) sketch (graph_is_sound s sketch) by.legal lists in (
                Done,
                alternatives_from s F 1 found.0,
                record {
                  plan = p;
                  by = by;
                  found = found.0;
                  are = found.1;
                  is = refl;
                },
              ))
        ]

-- the places behind a sketch are measured, or an element has none
measure_answer : LawsBelow → (request : Request) (bytes : List ℕ) → Answered Measure request bytes
measure_answer laws request bytes =
    elim (laws.front bytes) [
      | inr (n, (code, refuses)) ↦ (let r : Refusal = record { line = n; code = code } in (Refused, refusal_line r, (r, inl refuses, refl)))
      | inl (f, front) ↦ elim (places_or_refused f.sketch f.lines (drop f.used bytes)) [
        | inr (n, (code, refuses)) ↦ (let r : Refusal = record { line = n; code = code } in (Refused, refusal_line r, (r, inr (f, front, refuses), refl)))
        | inl (claim, reads) ↦ (
            let s = f.sketch in
            let sketch = laws.sound (take f.used bytes) s front.reads in
            let fits = read_places_fit s (drop f.used bytes) claim reads in
            let found = some_measurement request.within s sketch claim fits in
            (found.0, found.1, as_answer request.within bytes found.0 found.1 (f, claim, record { sketch = front; placed = reads }, found.2)))
      ]
    ]

-- the sketch is completed, or it is told why not
complete_answer : LawsBelow → (request : Request) (bytes : List ℕ) → Answered Complete request bytes
complete_answer laws request bytes =
    elim (laws.answer bytes) [
      | inr (n, (code, refuses)) ↦ (let r : Refusal = record { line = n; code = code } in (Refused, refusal_line r, (r, refuses, refl)))
      | inl (s, reads) ↦ (
          let sketch = laws.sound bytes s reads in
          let j = the_judgement_of s sketch in
          let c = some_completion s sketch (laws.some bytes s reads) j.0 j.1 in
          let text = completion_text s j.0 c.0 in
          (completion_status c.0, text, given_so bytes text s reads c.0 (record { judgement = j.0; judged = j.1; given = c.1; is = refl })))
    ]

answered : LawsBelow → (command : Command) (request : Request) → HasFitSize command → (bytes : List ℕ) → Answered command request bytes
answered laws (Tell account) request size bytes = accounted laws account request bytes
answered laws Verify request size bytes = verify_answer laws request bytes
answered laws Plan request size bytes = planned_answer laws request bytes
answered laws Solve request size bytes = solve_answer laws Places request bytes
answered laws Dxf request size bytes = solve_answer laws Drawing request bytes
answered laws Offers request size bytes = offers_answer laws request bytes
answered laws Flips request size bytes = flips_answer laws request bytes
answered laws Session request size bytes =
    some_session laws.language laws.to_solve (λ asked s sound some. (let found = solved Places asked s sound some in (found.0, found.1, found.3))) request bytes
answered laws Live request size bytes =
    some_live laws.language laws.to_solve (λ asked s sound some. (let found = solved Places asked s sound some in (found.0, found.1, found.3))) request bytes
answered laws Complete request size bytes = complete_answer laws request bytes
answered laws Measure request size bytes = measure_answer laws request bytes
answered laws (Grow n) request size bytes = let found = solved Sums request (datum_sketch n) (laws.made n size.0 size.1) (omega arith) in (found.0, found.1, found.3)

pub some_outcome : LawsBelow → (words : List (List ℕ)) (bytes : List ℕ) → (status : Status) × (text : List ℕ) × IsOutcome words bytes status text
some_outcome laws words bytes =
    elim (form_decided words) [
      | inr never ↦ (Usage, usage_line, inr (never, refl, refl))
      | inl (request, asks) ↦ (
          let found = answered laws request.command request (size_fits words request asks) bytes in
          (found.0, found.1, inl (request, asks, found.2)))
    ]
