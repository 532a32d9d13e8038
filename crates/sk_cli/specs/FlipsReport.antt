-- What is told of turned choices, one line of flips after another.
use Rattle.std.specs.Prelude.{◌≡◌, ℕ, ◌+◌, List, [], ◌∷◌, ◌++◌, drop, codes}
use Rattle.std.specs.Fmt.{decimal}
use Rattle.sk_base.specs.declared.Name.{Name}
use Rattle.sk_base.specs.declared.Sketch.{Sketch}
use Rattle.sk_lines.specs.declared.Code.{Code}
use Rattle.sk_lang.specs.declared.Front.{Front}
use Rattle.sk_lines.specs.declared.Refusal.{Refusal}
use Rattle.sk_lang.specs.Front.{ReadsFront}
use Rattle.sk_tree.specs.declared.Plan.{Plan as ThePlan}
use Rattle.sk_plan.specs.PlanBy.{IsPlanBy}
use Rattle.sk_text.specs.ClusterName.{cluster_name}
use Rattle.sk_report.specs.FaultLines.{fault_line, frame_fault_line, passed_line, turned_line}
use Rattle.sk_report.specs.RefusalLine.{refusal_line}
use Rattle.sk_report.specs.SolveReport.{places_report}
use Rattle.sk_solve.specs.declared.Alternative.{Alternative}
use Rattle.sk_solve.specs.declared.Alternative.TheVariants.{Found, NoChoice, Fault, Uncarried, Passed, Turned}
use Rattle.sk_solve.specs.Alternatives.{AreAlternatives}
use Rattle.sk_flips.specs.FlipReading.{ReadsFlips, RefusesFlips}
use Rattle.sk_request.specs.declared.Request.{Request}
use Rattle.sk_answers.specs.declared.Status.{Status}
use Rattle.sk_answers.specs.declared.Status.TheVariants.{Done, Refused, NotWell}
use Rattle.sk_answers.specs.Fronts.{IsRefusedAt}
use Rattle.sk_request.specs.Grids.{grid_of, digits_of}
use Rattle.sk_cli.specs.Solved.{IsReportNotWell}

-- elements are found, a step has no choice, or something fails
abbrev pub found_words : Alternative → List ℕ
found_words (Found at tol) = codes "ok"
found_words (NoChoice n) = codes "no-choice " ++ cluster_name n
found_words (Fault f) = codes "fault"
found_words (Uncarried f) = codes "fault"
found_words (Passed b) = codes "fault"
found_words (Turned t) = codes "fault"

-- the line that answers a line of flips, by the number of that line among them
abbrev pub flip_line : ℕ → Alternative → List ℕ
flip_line number a = codes "flip " ++ (decimal number ++ (codes " " ++ (found_words a ++ codes "\n")))

-- what is told below it: where the elements lie and within which tolerance, or what fails. The sign of a step that is called
-- drawn is the one that the turned plan chooses.
abbrev pub lines_below : Sketch → ℕ → Alternative → List ℕ
lines_below s bits (Found at tol) = places_report s at tol
lines_below s bits (NoChoice n) = []
lines_below s bits (Fault f) = fault_line s f bits
lines_below s bits (Uncarried f) = frame_fault_line s f bits
lines_below s bits (Passed b) = passed_line s b
lines_below s bits (Turned t) = turned_line t

abbrev pub alternative_report : Sketch → ℕ → ℕ → Alternative → List ℕ
alternative_report s number bits a = flip_line number a ++ lines_below s bits a

-- the same of alternatives, one behind another, where the first has this number
abbrev pub alternatives_from : Sketch → ℕ → ℕ → List Alternative → List ℕ
alternatives_from s bits number [] = []
alternatives_from s bits number (a ∷ more) = alternative_report s number bits a ++ alternatives_from s bits (number + 1) more

-- this is told of what comes of each list of steps, by the plan by the order
pub record IsReportOnFlips (request : Request) (s : Sketch) (lists : List (List Name)) (text : List ℕ) : Type 0 where
  pub plan : ThePlan
  pub by : IsPlanBy request.order s plan
  pub found : List Alternative
  pub are : AreAlternatives (grid_of request.bits) request.layout (digits_of request.bits) request.within s plan lists found
  pub is : text ≡ alternatives_from s (digits_of request.bits) 1 found

-- what comes of each list of steps where the verdict is well, else the check report
abbrev pub IsFlipped : Request → Sketch → List (List Name) → Status → List ℕ → Type 0
IsFlipped request s lists Done text = IsReportOnFlips request s lists text
IsFlipped request s lists NotWell text = IsReportNotWell s text
IsFlipped request s lists status text = ⊥

-- the text is read as a sketch up to its `end`, and what follows as these lists of steps
abbrev pub ReadsSketchAndFlips : List ℕ → Front → List (List Name) → Type 0
ReadsSketchAndFlips bytes front lists = ReadsFront bytes front × ReadsFlips (drop front.used bytes) lists

-- the text behind a sketch is refused as flips, on a line that is counted from the first of the whole text
abbrev pub RefusesFlipsBehind : Front → List ℕ → ℕ → Code → Type 0
RefusesFlipsBehind front = RefusesFlips front.lines

-- a line of the sketch or one behind it is refused
abbrev pub IsFlipsRefusal : List ℕ → List ℕ → Type 0
IsFlipsRefusal bytes text = (r : Refusal) × IsRefusedAt RefusesFlipsBehind bytes r × (text ≡ refusal_line r)

-- what `flips` answers to an input
abbrev pub IsFlipsAnswer : Request → List ℕ → Status → List ℕ → Type 0
IsFlipsAnswer request bytes Refused text = IsFlipsRefusal bytes text
IsFlipsAnswer request bytes status text =
    (front : Front) × (lists : List (List Name)) × ReadsSketchAndFlips bytes front lists × IsFlipped request front.sketch lists status text
