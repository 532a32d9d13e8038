-- How a call ends, from its parts. The answer to the bytes that were taken is the answer to all bytes,
-- since 1,048,577 bytes are too many however they go on.
use Rattle.std.proofs.Common.{◌≡◌, ◌≢◌, ℕ, ◌≤◌, List, [], length, take, refl, sym, subst, ap, ◌∙◌, inl, inr, arith, None, Some, Option}
use Rattle.std.proofs.lemmas.Bool.{cases_lt}
use Rattle.std.proofs.lemmas.List.{append-nil, take_all, length-take}
use Rattle.std.specs.Prelude.{IfSome, drop}
use Rattle.std.specs.Io.KnownBytes.{Appends}
use Rattle.sk_io.specs.Transfer.{TakesUpTo}
use Rattle.sk_base.specs.declared.Sketch.{Sketch}
use Rattle.sk_lines.specs.declared.Code.{Code}
use Rattle.sk_lines.specs.declared.Refusal.{Refusal}
use Rattle.sk_lang.specs.Reading.{Refuses, TooLong, Empty, AtLine, NoEnd}
use Rattle.sk_lang.specs.Front.{RefusesFront}
use Rattle.sk_lang.specs.declared.Front.{Front}
use Rattle.sk_answers.specs.Fronts.{IsRefusedAt}
use Rattle.sk_cli.specs.FlipsReport.{RefusesFlipsBehind}
use Rattle.sk_answers.specs.MeasureAnswer.{RefusesPlacesBehind}
use Rattle.sk_answers.specs.OffersReport.{RefusesOffersBehind}
use Rattle.sk_answers.specs.VerifyAnswer.{RefusesClaimBehind}
use Rattle.sk_request.specs.declared.Account.{Account}
use Rattle.sk_request.specs.declared.Command.{Command}
use Rattle.sk_request.specs.declared.Command.TheVariants.{Tell, Plan, Solve, Dxf, Offers, Session, Grow, Verify, Flips, Live, Complete, Measure}
use Rattle.sk_solve.specs.declared.Placement.{Placement}
use Rattle.sk_request.specs.declared.Request.{Request}
use Rattle.sk_cli.specs.declared.solving.Report.{Report}
use Rattle.sk_cli.specs.declared.solving.Report.TheVariants.{Places, Drawing, Sums}
use Rattle.sk_gen.specs.DatumSketch.{datum_sketch}
use Rattle.sk_answers.specs.declared.Status.{Status}
use Rattle.sk_answers.specs.declared.Status.TheVariants.{Done, Refused, Usage, ReadFault, WriteFault, NoMemory, NotWell, StepFault, Tolerance, NotVerified}
use Rattle.sk_request.specs.Asking.{Asks, AreOfForm, TakesInput, AskForInput}
use Rattle.sk_request.proofs.OneRequest.{same_request}
use Rattle.sk_cli.specs.Solving.{status_of}
use Rattle.sk_cli.specs.Outcome.{IsOutcome, IsAnswer, IsAnswerOf, IsAccountAnswer, IsSolved, IsWritten, usage_line}
use Rattle.sk_cli.specs.SessionAnswer.{RepliesToFront}
use Rattle.sk_cli.specs.LiveEnding.{LiveEnds, AllLiveFit}
use Rattle.sk_cli.specs.SessionEnding.{SessionEnds}
use Rattle.sk_cli.specs.Ending.{IsTold, AskForLive, Ends, Sends}
use Rattle.sk_cli.proofs.CompleteTold.{other_completed}

-- the bytes that are told, or any
told_bytes : (left : Option (List ℕ)) → (bytes : List ℕ) × IsTold left bytes
told_bytes None = ([], tt)
told_bytes (Some bytes) = (bytes, refl)

-- what was taken is the front of what is told
taken_from : (most : ℕ) (left new : Option (List ℕ)) (text : List ℕ) → length text ≤ most → TakesUpTo most left new text → (bytes : List ℕ) × IsTold left bytes × (text ≡ take most bytes)
taken_from most None new text few taken = (text, tt, sym (take_all most text few))
taken_from most (Some bytes) new text few taken = (bytes, refl, taken.0)

-- what was taken is gone from what is left
pub read_told : (left behind : Option (List ℕ)) (taken : List ℕ) → TakesUpTo 1048577 left behind taken → IfSome left (λ bytes. behind ≡ Some (drop 1048577 bytes))
read_told None behind taken takes = tt
read_told (Some bytes) behind taken takes = takes.1

nothing_gained : (a : Option (List ℕ)) → Appends a a []
nothing_gained None = tt
nothing_gained (Some xs) = sym (append-nil xs)

-- a text that is one byte too long is refused as too long, however it goes on
still_refused : (text bytes : List ℕ) → length text ≡ 1048577 → 1048577 ≤ length bytes → (line : ℕ) (code : Code) → Refuses text line code → Refuses bytes line code
still_refused text bytes long longer line code (TooLong more) = TooLong (omega (arith, longer))
still_refused text bytes long longer line code (Empty fits blank) = absurd (omega (arith, long, fits))
still_refused text bytes long longer line code (AtLine fits some before at what first) = absurd (omega (arith, long, fits))
still_refused text bytes long longer line code (NoEnd fits some clean open_end) = absurd (omega (arith, long, fits))

still_front : (text bytes : List ℕ) → length text ≡ 1048577 → 1048577 ≤ length bytes → (line : ℕ) (code : Code) → Refuses text line code → RefusesFront bytes line code
still_front text bytes long longer line code (TooLong more) = record { refuses = TooLong (omega (arith, longer)); before_end = refl }
still_front text bytes long longer line code (Empty fits blank) = absurd (omega (arith, long, fits))
still_front text bytes long longer line code (AtLine fits some before at what first) = absurd (omega (arith, long, fits))
still_front text bytes long longer line code (NoEnd fits some clean open_end) = absurd (omega (arith, long, fits))

still_refused_at : (RefusesBehind : Front → List ℕ → ℕ → Code → Type 0) (text bytes : List ℕ) → length text ≡ 1048577 → 1048577 ≤ length bytes → (r : Refusal) → IsRefusedAt RefusesBehind text r → IsRefusedAt RefusesBehind bytes r
still_refused_at RefusesBehind text bytes long longer r (inl refuses) = inl (still_front text bytes long longer r.line r.code refuses.refuses)
still_refused_at RefusesBehind text bytes long longer r (inr behind) = absurd (omega (arith, long, behind.1.fits))

still_accounted : (text bytes : List ℕ) → length text ≡ 1048577 → 1048577 ≤ length bytes → (account : Account) (request : Request) (status : Status) (out : List ℕ) → IsAccountAnswer account request text status out → IsAccountAnswer account request bytes status out
still_accounted text bytes long longer account request Done out answer = absurd (omega (arith, long, answer.1.fits))
still_accounted text bytes long longer account request Refused out answer = (answer.0, still_refused text bytes long longer answer.0.line answer.0.code answer.1, answer.2)
still_accounted text bytes long longer account request status out answer = absurd answer

still_answered : (text bytes : List ℕ) → length text ≡ 1048577 → 1048577 ≤ length bytes → (command : Command) → command ≢ Live → (request : Request) (status : Status) (out : List ℕ) → IsAnswerOf command request text status out → IsAnswerOf command request bytes status out
still_answered text bytes long longer (Tell account) whole request status out answer = still_accounted text bytes long longer account request status out answer
still_answered text bytes long longer Plan whole request Refused out answer = (answer.0, still_refused text bytes long longer answer.0.line answer.0.code answer.1, answer.2)
still_answered text bytes long longer Plan whole request status out answer = absurd (omega (arith, long, answer.1.fits))
still_answered text bytes long longer Solve whole request Refused out answer = (answer.0, still_refused text bytes long longer answer.0.line answer.0.code answer.1, answer.2)
still_answered text bytes long longer Solve whole request status out answer = absurd (omega (arith, long, answer.1.fits))
still_answered text bytes long longer Dxf whole request Refused out answer = (answer.0, still_refused text bytes long longer answer.0.line answer.0.code answer.1, answer.2)
still_answered text bytes long longer Dxf whole request status out answer = absurd (omega (arith, long, answer.1.fits))
still_answered text bytes long longer (Grow n) whole request status out answer = answer
still_answered text bytes long longer Offers whole request Done out answer = absurd (omega (arith, long, answer.2.fits))
still_answered text bytes long longer Offers whole request Refused out answer = (answer.0, still_refused_at RefusesOffersBehind text bytes long longer answer.0 answer.1, answer.2)
still_answered text bytes long longer Offers whole request status out answer = absurd answer
still_answered text bytes long longer Verify whole request Done out answer = absurd (omega (arith, long, answer.2.sketch.fits))
still_answered text bytes long longer Verify whole request NotVerified out answer = absurd (omega (arith, long, answer.3.sketch.fits))
still_answered text bytes long longer Verify whole request Refused out answer = (answer.0, still_refused_at RefusesClaimBehind text bytes long longer answer.0 answer.1, answer.2)
still_answered text bytes long longer Verify whole request status out answer = absurd answer
still_answered text bytes long longer Flips whole request Refused out answer = (answer.0, still_refused_at RefusesFlipsBehind text bytes long longer answer.0 answer.1, answer.2)
still_answered text bytes long longer Flips whole request status out answer = absurd (omega (arith, long, answer.2.0.fits))
still_answered text bytes long longer Session whole request Done out answer = absurd (omega (arith, long, answer.0.fits))
still_answered text bytes long longer Session whole request Refused out answer = (omega (arith, longer), answer.1)
still_answered text bytes long longer Session whole request status out answer = absurd answer
still_answered text bytes long longer Live whole request status out answer = absurd (whole refl)
still_answered text bytes long longer Complete whole request Refused out answer = (answer.0, still_refused text bytes long longer answer.0.line answer.0.code answer.1, answer.2)
still_answered text bytes long longer Complete whole request status out answer = absurd (omega (arith, long, answer.1.fits))
still_answered text bytes long longer Measure whole request Refused out answer = (answer.0, still_refused_at RefusesPlacesBehind text bytes long longer answer.0 answer.1, answer.2)
still_answered text bytes long longer Measure whole request status out answer = absurd (omega (arith, long, answer.2.sketch.fits))

-- an answer to what was taken is one to all
answer_of_front : (text bytes : List ℕ) → text ≡ take 1048577 bytes → (request : Request) → request.command ≢ Live → (status : Status) (out : List ℕ) → IsAnswer request text status out → IsAnswer request bytes status out
answer_of_front text bytes front request whole status out answer =
    elim (cases_lt 1048577 (length bytes)) [
      | inl more ↦
          let long : length text ≡ 1048577 = ap length front ∙ length-take 1048577 bytes ∙ omega arith in
          still_answered text bytes long (omega (arith, more)) request.command whole request status out answer
      | inr few ↦ let whole : text ≡ bytes = front ∙ take_all 1048577 bytes few in rw whole at answer
    ]

-- an answer to what was taken is one to what is told
told_answer : (left behind : Option (List ℕ)) (taken : List ℕ) (command : Command) (request : Request) → request.command ≢ Live → (status : Status) (out : List ℕ) → request.command ≡ command
    → length taken ≤ 1048577 → (TakesInput command → TakesUpTo 1048577 left behind taken) → IsAnswer request taken status out
    → (bytes : List ℕ) × IsTold left bytes × IsAnswer request bytes status out
told_answer left behind taken (Grow n) request whole status out is few takes answer =
    let told = told_bytes left in
    (told.0, told.1, subst (λ c. IsAnswerOf c request told.0 status out) (sym is) (subst (λ c. IsAnswerOf c request taken status out) is answer))
told_answer left behind taken command request whole status out is few takes answer =
    let from = taken_from 1048577 left behind taken few (takes tt) in (from.0, from.1, answer_of_front taken from.0 from.2 request whole status out answer)

-- words whose command takes no input don't ask for it
pub asked_input : (words : List (List ℕ)) (request : Request) → Asks words request → AskForInput words → TakesInput request.command
asked_input words request asks (other, other_asks, takes) = subst (λ (r : Request). TakesInput r.command) (same_request words other request other_asks asks) takes

-- the statuses that are told of a sketch
abbrev pub IsSolveStatus : Status → Type 0
IsSolveStatus Done = Unit {0}
IsSolveStatus NotWell = Unit {0}
IsSolveStatus StepFault = Unit {0}
IsSolveStatus Tolerance = Unit {0}
IsSolveStatus status = ⊥

placement_told : (placement : Placement) → IsSolveStatus (status_of placement)
placement_told (Placement.Fault f) = tt
placement_told (Placement.Uncarried f) = tt
placement_told (Placement.Beyond b) = tt
placement_told (Placement.Turned t) = tt
placement_told (Placement.Holds at t) = tt

pub solved_told : (report : Report) (request : Request) (s : Sketch) (status : Status) (text : List ℕ) → IsSolved report request s status text → IsSolveStatus status
solved_told report request s status text (inl (p, placement, placed, is, text_is)) = subst (λ z. IsSolveStatus z) (sym is) (placement_told placement)
solved_told report request s status text (inr (is, told)) = subst (λ z. IsSolveStatus z) (sym is) tt

-- no answer is a fault or that memory ran out
no_read_fault : (command : Command) (request : Request) (bytes text : List ℕ) → ¬ IsAnswerOf command request bytes ReadFault text
no_read_fault (Tell account) request bytes text answer = answer
no_read_fault Plan request bytes text answer = answer.2
no_read_fault Solve request bytes text answer = solved_told Places request answer.0 ReadFault text answer.2
no_read_fault Dxf request bytes text answer = solved_told Drawing request answer.0 ReadFault text answer.2
no_read_fault (Grow n) request bytes text answer = solved_told Sums request (datum_sketch n) ReadFault text answer
no_read_fault Offers request bytes text answer = answer
no_read_fault Flips request bytes text answer = answer.3
no_read_fault Session request bytes text answer = answer
no_read_fault Verify request bytes text answer = answer
no_read_fault Live request bytes text answer = answer
no_read_fault Complete request bytes text answer = other_completed ReadFault answer.2.0 answer.2.2 (λ same. cc) (λ same. cc)
no_read_fault Measure request bytes text answer = answer.3.1.fault

no_want : (command : Command) (request : Request) (bytes text : List ℕ) → ¬ IsAnswerOf command request bytes NoMemory text
no_want (Tell account) request bytes text answer = answer
no_want Plan request bytes text answer = answer.2
no_want Solve request bytes text answer = solved_told Places request answer.0 NoMemory text answer.2
no_want Dxf request bytes text answer = solved_told Drawing request answer.0 NoMemory text answer.2
no_want (Grow n) request bytes text answer = solved_told Sums request (datum_sketch n) NoMemory text answer
no_want Offers request bytes text answer = answer
no_want Flips request bytes text answer = answer.3
no_want Session request bytes text answer = answer
no_want Verify request bytes text answer = answer
no_want Live request bytes text answer = answer
no_want Complete request bytes text answer = other_completed NoMemory answer.2.0 answer.2.2 (λ same. cc) (λ same. cc)
no_want Measure request bytes text answer = answer.3.1.fault

no_write_fault : (command : Command) (request : Request) (bytes text : List ℕ) → ¬ IsAnswerOf command request bytes WriteFault text
no_write_fault (Tell account) request bytes text answer = answer
no_write_fault Plan request bytes text answer = answer.2
no_write_fault Solve request bytes text answer = solved_told Places request answer.0 WriteFault text answer.2
no_write_fault Dxf request bytes text answer = solved_told Drawing request answer.0 WriteFault text answer.2
no_write_fault (Grow n) request bytes text answer = solved_told Sums request (datum_sketch n) WriteFault text answer
no_write_fault Offers request bytes text answer = answer
no_write_fault Flips request bytes text answer = answer.3
no_write_fault Session request bytes text answer = answer
no_write_fault Verify request bytes text answer = answer
no_write_fault Live request bytes text answer = answer
no_write_fault Complete request bytes text answer = other_completed WriteFault answer.2.0 answer.2.2 (λ same. cc) (λ same. cc)
no_write_fault Measure request bytes text answer = answer.3.1.fault

outcome_no_read_fault : (words : List (List ℕ)) (bytes text : List ℕ) → ¬ IsOutcome words bytes ReadFault text
outcome_no_read_fault words bytes text outcome = elim outcome [ inl asked ↦ no_read_fault asked.0.command asked.0 bytes text asked.2 | inr usage ↦ (let same = usage.1 in cc) ]

outcome_no_want : (words : List (List ℕ)) (bytes text : List ℕ) → ¬ IsOutcome words bytes NoMemory text
outcome_no_want words bytes text outcome = elim outcome [ inl asked ↦ no_want asked.0.command asked.0 bytes text asked.2 | inr usage ↦ (let same = usage.1 in cc) ]

-- how a call ends that sends the text of its outcome
sent_ends : (words : List (List ℕ)) (bytes : List ℕ) (old new : Option (List ℕ)) (given : Status) (text : List ℕ) (result : Status)
    → IsOutcome words bytes given text → Sends old new given text result → (gained : List ℕ) × Appends old new gained × Ends words bytes result gained
sent_ends words bytes old new given text WriteFault outcome sent = (take sent.0 text, sent.2, (text, sent.0, inl (given, outcome), sent.1, refl))
sent_ends words bytes old new given text Done outcome sent = (text, sent.0, rw (← sent.1) at outcome)
sent_ends words bytes old new given text Refused outcome sent = (text, sent.0, rw (← sent.1) at outcome)
sent_ends words bytes old new given text Usage outcome sent = (text, sent.0, rw (← sent.1) at outcome)
sent_ends words bytes old new given text NotWell outcome sent = (text, sent.0, rw (← sent.1) at outcome)
sent_ends words bytes old new given text StepFault outcome sent = (text, sent.0, rw (← sent.1) at outcome)
sent_ends words bytes old new given text Tolerance outcome sent = (text, sent.0, rw (← sent.1) at outcome)
sent_ends words bytes old new given text NotVerified outcome sent = (text, sent.0, rw (← sent.1) at outcome)
sent_ends words bytes old new given text ReadFault outcome sent = absurd (outcome_no_read_fault words bytes text (rw (← sent.1) at outcome))
sent_ends words bytes old new given text NoMemory outcome sent = absurd (outcome_no_want words bytes text (rw (← sent.1) at outcome))

pub usage_ends : (words : List (List ℕ)) (left old new : Option (List ℕ)) (text : List ℕ) (result : Status) → ¬ AreOfForm words → text ≡ usage_line → Sends old new Usage text result
    → (bytes : List ℕ) × (gained : List ℕ) × IsTold left bytes × Appends old new gained × Ends words bytes result gained
usage_ends words left old new text result no_form is_usage sent =
    let told = told_bytes left in
    let ends = sent_ends words told.0 old new Usage text result (inr (no_form, refl, is_usage)) sent in
    (told.0, ends.0, told.1, ends.1, ends.2)

pub answer_ends : (words : List (List ℕ)) (left behind old new : Option (List ℕ)) (taken : List ℕ) (request : Request) (given : Status) (text : List ℕ) (result : Status)
    → Asks words request → request.command ≢ Live → length taken ≤ 1048577 → (TakesInput request.command → TakesUpTo 1048577 left behind taken) → IsAnswer request taken given text → Sends old new given text result
    → (bytes : List ℕ) × (gained : List ℕ) × IsTold left bytes × Appends old new gained × Ends words bytes result gained
answer_ends words left behind old new taken request given text result asks whole few takes answer sent =
    let told = told_answer left behind taken request.command request whole given text refl few takes answer in
    let ends = sent_ends words told.0 old new given text result (inl (request, asks, told.2)) sent in
    (told.0, ends.0, told.1, ends.1, ends.2)

pub nothing_ends : (words : List (List ℕ)) (left old : Option (List ℕ)) (result : Status) → ((bytes : List ℕ) → Ends words bytes result [])
    → (bytes : List ℕ) × (gained : List ℕ) × IsTold left bytes × Appends old old gained × Ends words bytes result gained
nothing_ends words left old result ends = let told = told_bytes left in (told.0, [], told.1, nothing_gained old, ends told.0)

-- where no request is asked for, the words aren't of the form
pub no_form : (words : List (List ℕ)) → ((request : Request) → Asks words request → ⊥) → ¬ AreOfForm words
no_form words none (request, asks) = none request asks

-- the room that every outcome has is that of the answer to what was taken
pub answer_room : (words : List (List ℕ)) (left behind : Option (List ℕ)) (taken : List ℕ) (request : Request) (given : Status) (text : List ℕ) (room : ℕ)
    → ((bytes out : List ℕ) → IsTold left bytes → IsWritten words bytes out → length out ≤ room)
    → Asks words request → request.command ≢ Live → length taken ≤ 1048577 → (TakesInput request.command → TakesUpTo 1048577 left behind taken) → IsAnswer request taken given text → length text ≤ room
answer_room words left behind taken request given text room each asks whole few takes answer =
    let told = told_answer left behind taken request.command request whole given text refl few takes answer in each told.0 text told.1 (inl (given, inl (request, asks, told.2)))

pub usage_room : (words : List (List ℕ)) (left : Option (List ℕ)) (text : List ℕ) (room : ℕ)
    → ((bytes out : List ℕ) → IsTold left bytes → IsWritten words bytes out → length out ≤ room)
    → ¬ AreOfForm words → text ≡ usage_line → length text ≤ room
usage_room words left text room each no_form is_usage = let told = told_bytes left in each told.0 text told.1 (inl (Usage, inr (no_form, refl, is_usage)))

-- no answer is that the sink failed
pub no_fault : (request : Request) (bytes : List ℕ) (given : Status) (text : List ℕ) → IsAnswer request bytes given text → ¬ (given ≡ WriteFault)
no_fault request bytes given text answer same =
    no_write_fault request.command request bytes text (subst (λ status. IsAnswer request bytes status text) same answer)

-- a session takes its input
pub session_takes : (command : Command) → command ≡ Session → TakesInput command
session_takes command is = subst (λ (c : Command). TakesInput c) (sym is) tt

-- an input that isn't too long is taken whole
whole_taken : (text bytes : List ℕ) → text ≡ take 1048577 bytes → length text ≤ 1048576 → text ≡ bytes
whole_taken text bytes front fits =
    elim (cases_lt 1048577 (length bytes)) [
      | inl more ↦ (let long : length text ≡ 1048577 = ap length front ∙ length-take 1048577 bytes ∙ omega arith in absurd (omega (arith, long, fits)))
      | inr few ↦ front ∙ take_all 1048577 bytes few
    ]

-- how a call ends that ends as the session
as_session : (words : List (List ℕ)) (bytes : List ℕ) (request : Request) (result : Status) (gained : List ℕ) → Asks words request → request.command ≡ Session
    → SessionEnds request bytes result gained → Ends words bytes result gained
as_session words bytes request WriteFault gained asks is (text, n, front, within, taken) = (text, n, inr (inl (request, asks, is, front)), within, taken)
as_session words bytes request NoMemory gained asks is ends = inr (inl (request, asks, is, ends))
as_session words bytes request Done gained asks is ends = inl (request, asks, subst (λ (c : Command). IsAnswerOf c request bytes Done gained) (sym is) ends)
as_session words bytes request Refused gained asks is ends = inl (request, asks, subst (λ (c : Command). IsAnswerOf c request bytes Refused gained) (sym is) ends)
as_session words bytes request Usage gained asks is ends = absurd ends
as_session words bytes request ReadFault gained asks is ends = absurd ends
as_session words bytes request NotWell gained asks is ends = absurd ends
as_session words bytes request StepFault gained asks is ends = absurd ends
as_session words bytes request Tolerance gained asks is ends = absurd ends
as_session words bytes request NotVerified gained asks is ends = absurd ends

pub session_ends : (words : List (List ℕ)) (left behind old new : Option (List ℕ)) (taken : List ℕ) (request : Request) (result : Status) (gained : List ℕ)
    → Asks words request → request.command ≡ Session → length taken ≤ 1048577 → TakesUpTo 1048577 left behind taken → length taken ≤ 1048576 → Appends old new gained → SessionEnds request taken result gained
    → (bytes : List ℕ) × (all : List ℕ) × IsTold left bytes × Appends old new all × Ends words bytes result all
session_ends words left behind old new taken request result gained asks is few takes fits appended ends =
    let from = taken_from 1048577 left behind taken few takes in
    let whole : taken ≡ from.0 = whole_taken taken from.0 from.2 fits in
    (from.0, gained, from.1, appended, as_session words from.0 request result gained asks is (rw whole at ends))

pub session_room : (words : List (List ℕ)) (left behind : Option (List ℕ)) (taken : List ℕ) (request : Request) (room : ℕ)
    → ((bytes out : List ℕ) → IsTold left bytes → IsWritten words bytes out → length out ≤ room)
    → Asks words request → request.command ≡ Session → length taken ≤ 1048577 → TakesUpTo 1048577 left behind taken → length taken ≤ 1048576
    → (text : List ℕ) → RepliesToFront request taken text → length text ≤ room
session_room words left behind taken request room each asks is few takes fits text front =
    let from = taken_from 1048577 left behind taken few takes in
    let whole : taken ≡ from.0 = whole_taken taken from.0 from.2 fits in
    each from.0 text from.1 (inr (inl (request, asks, is, rw whole at front)))

-- how a call ends that ends as `live`
pub as_live : (words : List (List ℕ)) (bytes : List ℕ) (request : Request) (result : Status) (gained : List ℕ) → Asks words request → request.command ≡ Live
    → LiveEnds request bytes result gained → Ends words bytes result gained
as_live words bytes request WriteFault gained asks is (text, n, inl some, within, taken) = (text, n, inr (inr (request, asks, is, some)), within, taken)
as_live words bytes request WriteFault gained asks is (text, n, inr refused, within, taken) =
    (text, n, inl (Refused, inl (request, asks, subst (λ (c : Command). IsAnswerOf c request bytes Refused text) (sym is) refused)), within, taken)
as_live words bytes request NoMemory gained asks is ends = inr (inr (request, asks, is, ends))
as_live words bytes request ReadFault gained asks is ends = ((request, asks, subst (λ (c : Command). TakesInput c) (sym is) tt), inr (request, asks, is, ends))
as_live words bytes request Done gained asks is ends = inl (request, asks, subst (λ (c : Command). IsAnswerOf c request bytes Done gained) (sym is) ends)
as_live words bytes request Refused gained asks is ends = inl (request, asks, subst (λ (c : Command). IsAnswerOf c request bytes Refused gained) (sym is) ends)
as_live words bytes request Usage gained asks is ends = absurd ends
as_live words bytes request NotWell gained asks is ends = absurd ends
as_live words bytes request StepFault gained asks is ends = absurd ends
as_live words bytes request Tolerance gained asks is ends = absurd ends
as_live words bytes request NotVerified gained asks is ends = absurd ends

-- words whose command is another don't ask for `live`
pub not_live : (words : List (List ℕ)) (request : Request) → Asks words request → request.command ≢ Live → ¬ AskForLive words
not_live words request asks whole (other, other_asks, is) = whole (subst (λ (r : Request). r.command ≡ Live) (same_request words other request other_asks asks) is)

pub live_takes : (command : Command) → command ≡ Live → TakesInput command
live_takes command is = subst (λ (c : Command). TakesInput c) (sym is) tt

pub live_fits : (words : List (List ℕ)) (left : Option (List ℕ)) (request : Request) (room : ℕ)
    → ((bytes out : List ℕ) → IsTold left bytes → IsWritten words bytes out → length out ≤ room)
    → Asks words request → request.command ≡ Live → AllLiveFit request left room
live_fits words left request room each asks is bytes text told (inl some) = each bytes text told (inr (inr (request, asks, is, some)))
live_fits words left request room each asks is bytes text told (inr refused) =
    each bytes text told (inl (Refused, inl (request, asks, subst (λ (c : Command). IsAnswerOf c request bytes Refused text) (sym is) refused)))
