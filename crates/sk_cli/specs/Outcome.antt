-- What a call answers and writes: a status and a text.
use Rattle.std.specs.Prelude.{◌≡◌, ◌⊎◌, ℕ, List}
use Rattle.sk_base.specs.declared.Sketch.{Sketch}
use Rattle.sk_lines.specs.declared.Refusal.{Refusal as OneRefusal}
use Rattle.sk_lang.specs.Reading.{Reads, Refuses}
use Rattle.sk_close_by_order.specs.declared.Order.{Order}
use Rattle.sk_tree.specs.declared.Plan.{Plan as ThePlan}
use Rattle.sk_plan.specs.PlanBy.{IsPlanBy}
use Rattle.sk_gen.specs.DatumSketch.{datum_sketch}
use Rattle.sk_report.specs.PlanReport.{plan_report}
use Rattle.sk_report.specs.RefusalLine.{refusal_line}
use Rattle.sk_request.specs.declared.Account.{Account}
use Rattle.sk_request.specs.declared.Command.{Command}
use Rattle.sk_request.specs.declared.Command.TheVariants.{Tell, Plan, Solve, Dxf, Offers, Session, Grow, Verify, Flips, Live, Complete, Measure}
use Rattle.sk_request.specs.declared.Request.{Request}
use Rattle.sk_cli.specs.declared.solving.Report.{Report}
use Rattle.sk_cli.specs.declared.solving.Report.TheVariants.{Places, Drawing, Sums}
use Rattle.sk_answers.specs.declared.Status.{Status}
use Rattle.sk_answers.specs.declared.Status.TheVariants.{Done, Refused, Usage, NotWell}
use Rattle.sk_cli.specs.Accounts.{IsAccount}
use Rattle.sk_request.specs.Asking.{Asks, AreOfForm}
use Rattle.sk_cli.specs.CompleteAnswer.{IsCompleteAnswer}
use Rattle.sk_cli.specs.FlipsReport.{IsFlipsAnswer}
use Rattle.sk_cli.specs.LiveAnswer.{RepliesInTime, IsLiveAnswer}
use Rattle.sk_answers.specs.MeasureAnswer.{IsMeasureAnswer}
use Rattle.sk_answers.specs.OffersReport.{IsOffersAnswer}
use Rattle.sk_cli.specs.SessionAnswer.{IsSessionAnswer, RepliesToFront}
use Rattle.sk_answers.specs.VerifyAnswer.{IsVerifyAnswer}
pub use Rattle.sk_request.specs.Commands.{usage_line}
pub use Rattle.sk_cli.specs.Solved.{IsReportNotWell, IsPlacedPlan, IsSolved}

-- what is told of the sketch that the text is read as
abbrev pub IsAccountOf : Account → Request → List ℕ → List ℕ → Type 0
IsAccountOf account request bytes text = (s : Sketch) × Reads bytes s × IsAccount account request s text

-- the line that names the first faulty line of the text and its code
abbrev pub IsRefusalText : List ℕ → List ℕ → Type 0
IsRefusalText bytes text = (r : OneRefusal) × Refuses bytes r.line r.code × (text ≡ refusal_line r)

-- this is the plan report of the plan by the order
abbrev pub IsPlanReport : Order → Sketch → List ℕ → Type 0
IsPlanReport order s text = (p : ThePlan) × IsPlanBy order s p × (text ≡ plan_report s p)

-- the plan report of the sketch where the verdict is well, else its check report
abbrev pub IsPlanOrReport : Order → Sketch → Status → List ℕ → Type 0
IsPlanOrReport order s Done text = IsPlanReport order s text
IsPlanOrReport order s NotWell text = IsReportNotWell s text
IsPlanOrReport order s status text = ⊥

-- what `check`, `migrate`, `spare`, `derive`, `parts`, `excess` and `why` answer to an input, each with its account
abbrev pub IsAccountAnswer : Account → Request → List ℕ → Status → List ℕ → Type 0
IsAccountAnswer account request bytes Done text = IsAccountOf account request bytes text
IsAccountAnswer account request bytes Refused text = IsRefusalText bytes text
IsAccountAnswer account request bytes status text = ⊥

-- what `plan` answers to an input
abbrev pub IsPlanAnswer : Order → List ℕ → Status → List ℕ → Type 0
IsPlanAnswer order bytes Refused text = IsRefusalText bytes text
IsPlanAnswer order bytes status text = (s : Sketch) × Reads bytes s × IsPlanOrReport order s status text

-- what `solve` and `dxf` answer to an input, each with its report
abbrev pub IsSolveAnswer : Report → Request → List ℕ → Status → List ℕ → Type 0
IsSolveAnswer report request bytes Refused text = IsRefusalText bytes text
IsSolveAnswer report request bytes status text = (s : Sketch) × Reads bytes s × IsSolved report request s status text

-- what `grow` answers: what `solve` would do with the datum sketch of that size, with the sums as its report
abbrev pub IsGrowAnswer : ℕ → Request → Status → List ℕ → Type 0
IsGrowAnswer n request status text = IsSolved Sums request (datum_sketch n) status text

-- what a command answers to an input. What `check`, `derive` and `offers` answer is the same for every order, and what
-- `grow` answers is the same for every input.
abbrev pub IsAnswerOf : Command → Request → List ℕ → Status → List ℕ → Type 0
IsAnswerOf (Tell account) request bytes status text = IsAccountAnswer account request bytes status text
IsAnswerOf Plan request bytes status text = IsPlanAnswer request.order bytes status text
IsAnswerOf Solve request bytes status text = IsSolveAnswer Places request bytes status text
IsAnswerOf Dxf request bytes status text = IsSolveAnswer Drawing request bytes status text
IsAnswerOf Offers request bytes status text = IsOffersAnswer bytes status text
IsAnswerOf Session request bytes status text = IsSessionAnswer request bytes status text
IsAnswerOf (Grow n) request bytes status text = IsGrowAnswer n request status text
IsAnswerOf Verify request bytes status text = IsVerifyAnswer bytes status text
IsAnswerOf Flips request bytes status text = IsFlipsAnswer request bytes status text
IsAnswerOf Live request bytes status text = IsLiveAnswer request bytes status text
IsAnswerOf Complete request bytes status text = IsCompleteAnswer bytes status text
IsAnswerOf Measure request bytes status text = IsMeasureAnswer request.within bytes status text

abbrev pub IsAnswer : Request → List ℕ → Status → List ℕ → Type 0
IsAnswer request bytes status text = IsAnswerOf request.command request bytes status text

-- the status and the text that the words and the bytes of the input give
abbrev pub IsOutcome : List (List ℕ) → List ℕ → Status → List ℕ → Type 0
IsOutcome words bytes status text =
    ((request : Request) × Asks words request × IsAnswer request bytes status text)
    ⊎ ((AreOfForm words → ⊥) × (status ≡ Usage) × (text ≡ usage_line))

-- the words ask for a session, and this is the text of its replies to some lines at the front of the input
abbrev pub AreFirstReplies : List (List ℕ) → List ℕ → List ℕ → Type 0
AreFirstReplies words bytes text = (request : Request) × Asks words request × (request.command ≡ Session) × RepliesToFront request bytes text

-- the words ask for `live`, and this is the text of its replies to some lines at the front of those in time
abbrev pub AreLiveReplies : List (List ℕ) → List ℕ → List ℕ → Type 0
AreLiveReplies words bytes text = (request : Request) × Asks words request × (request.command ≡ Live) × RepliesInTime request bytes text

-- a text that is written, whole or as far as the sink takes it: that of an outcome, or that of the first replies of a session or of `live`
abbrev pub IsWritten : List (List ℕ) → List ℕ → List ℕ → Type 0
IsWritten words bytes text = ((status : Status) × IsOutcome words bytes status text) ⊎ (AreFirstReplies words bytes text ⊎ AreLiveReplies words bytes text)
