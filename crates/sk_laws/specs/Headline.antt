-- What a designer reads, in words over what is written: clusters, plans, places, and what fails first.
use Rattle.std.specs.Prelude.{◌≡◌, ◌≢◌, ◌↔◌, ◌⊎◌, ℕ, ◌≤◌, ◌<◌, ◌*◌, ◌-◌, List, [], ◌∷◌, ◌++◌, Contains, length, IsTrue}
use Rattle.sk_base.specs.declared.ConId.{ConId}
use Rattle.sk_base.specs.declared.Elem.{Elem}
use Rattle.sk_base.specs.declared.Graph.{Graph}
use Rattle.sk_base.specs.declared.Placed.{Placed}
use Rattle.sk_base.specs.declared.Sketch.{Sketch}
use Rattle.sk_family.specs.Body.{Body}
use Rattle.sk_rules.specs.Reach.{IsNormal, IsTheOnlyNormal}
use Rattle.sk_verdict.specs.declared.Judgement.{Judgement}
use Rattle.sk_verdict.specs.declared.Part.{Part}
use Rattle.sk_verdict.specs.Judging.{IsOver}
use Rattle.sk_rules.specs.Excess.{held}
use Rattle.sk_verdict.specs.Parts.{IsLone, part_with}
use Rattle.sk_graph.specs.SketchGraph.{graph_of}
use Rattle.sk_tree.specs.declared.Plan.{Plan as ThePlan}
use Rattle.sk_tree.specs.declared.Tree.{Tree}
use Rattle.sk_tree.specs.PlanTree.{IsPlanTree}
use Rattle.sk_tree.specs.LegalPlan.{numbers_of}
use Rattle.sk_plan.specs.Judged.{IsTheJudgement, IsWell}
use Rattle.sk_plan.specs.Leaves.{HasLeaves}
use Rattle.sk_place.specs.declared.BoxFault.{BoxFault}
use Rattle.sk_place.specs.declared.StepFault.{StepFault}
use Rattle.sk_tolerance.specs.declared.Beyond.{Beyond}
use Rattle.sk_tolerance.specs.declared.Tolerance.{Tolerance}
use Rattle.sk_tolerance.specs.declared.Turned.{Turned}
use Rattle.sk_tolerance.specs.First.{IsFirst}
use Rattle.sk_measure.specs.Placing.{PlacesExactly}
use Rattle.sk_tolerance.specs.Tolerances.{AllHoldWithin, IsFirstBeyond, everything}
use Rattle.sk_tolerance.specs.Turns.{signs, IsTurned, AllAsDrawn}
use Rattle.sk_report.specs.CheckReport.{check_report, parts_head}
use Rattle.sk_report.specs.FaultLines.{fault_line, frame_fault_line, passed_line, turned_line}
use Rattle.sk_report.specs.PlanReport.{plan_report}
use Rattle.sk_report.specs.SolveReport.{shape_report}
use Rattle.sk_session.specs.declared.Reply.{Reply}
use Rattle.sk_session.specs.declared.Reply.TheVariants as reply
use Rattle.sk_session.specs.State.{State}
use Rattle.sk_request.specs.declared.Account.TheVariants.{Judged, Shapes, Excesses}
use Rattle.sk_request.specs.declared.Command.{Command}
use Rattle.sk_request.specs.declared.Command.TheVariants.{Tell, Plan, Solve, Dxf, Offers, Grow, Flips}
use Rattle.sk_request.specs.declared.Request.{Request}
use Rattle.sk_cli.specs.declared.Report.{Report}
use Rattle.sk_answers.specs.declared.Status.{Status}
use Rattle.sk_answers.specs.declared.Status.TheVariants.{Done, NotWell}
use Rattle.sk_laws.specs.Causes.{plans, solves, IsReportOf, IsItsPlan, IsFaultAt, IsOff, LieAt, NonePasses}
use Rattle.sk_request.specs.Grids.{digits_of}
use Rattle.sk_excess.specs.LeftOut.{AreLeftOut}
use Rattle.sk_excess.specs.KeptSketch.{kept_sketch}
use Rattle.sk_report.specs.ExcessReport.{excess_head, left_lines}
use Rattle.sk_cli.specs.PartsReport.{EachStands}
use Rattle.sk_cli.specs.LiveAnswer.{RepliesInTime}
use Rattle.sk_cli.specs.ExcessReport.{AreOffsTold, IsOverLeft, EachOverStands, over_count}
use Rattle.sk_cli.specs.SessionAnswer.{RepliesToFront, IsReplied}
use Rattle.sk_cli.specs.Solving.{IsTolerance, report_words}

-- the parts of two or more elements are the clusters of the only family that merging reaches and no rule can merge
-- further, and just those of them are over that hold more than 2n - 3 constraints, where a block of k points counts as
-- 2k - 3; the other parts are the elements that no constraint names, one each, which hold nothing and are never over
pub record TellsClusters (g : Graph) (j : Judgement) : Type 0 where
  pub family : List Body
  pub normal : IsNormal g family
  pub only : IsTheOnlyNormal g family
  pub clusters : (p : Part) → 2 ≤ length p.elements → Contains j.parts p ↔ ((x : Body) × Contains family x × (p ≡ part_with g x.elements))
  pub over : (p : Part) → Contains j.parts p → IsOver p ↔ (2 * length p.elements - 3 < held g p.elements)
  pub lone : (p : Part) → length p.elements < 2 → Contains j.parts p ↔ ((e : Elem) × IsLone g e × (p ≡ record { elements = e ∷ []; held = 0; due = 0 }))
  pub never_over : (p : Part) → length p.elements < 2 → Contains j.parts p → ¬ IsOver p

-- just one part remains, and it isn't over
abbrev pub IsOneSoundPart : Judgement → Type 0
IsOneSoundPart j = (length j.parts ≡ 1) × ((p : Part) → Contains j.parts p → ¬ IsOver p)

-- a command writes the check report with this status
abbrev pub WritesCheckReport : Command → Status → Type 0
WritesCheckReport (Tell Judged) Done = Unit {0}
WritesCheckReport Offers Done = Unit {0}
WritesCheckReport Plan NotWell = Unit {0}
WritesCheckReport Solve NotWell = Unit {0}
WritesCheckReport Dxf NotWell = Unit {0}
WritesCheckReport (Grow n) NotWell = Unit {0}
WritesCheckReport Flips NotWell = Unit {0}
WritesCheckReport command status = ⊥

-- what a command may write before the check report: only `offers` writes lines there
abbrev pub MayStandBefore : Command → List ℕ → Type 0
MayStandBefore Offers lines = Unit {0}
MayStandBefore command lines = lines ≡ []

-- the text ends with the check report, and for all commands but `offers` is that report
abbrev pub EndsWithClusters : Command → Sketch → List ℕ → Type 0
EndsWithClusters command s text =
    (j : Judgement) × (lines : List ℕ) × MayStandBefore command lines × (text ≡ lines ++ check_report s j) × TellsClusters (graph_of s) j

-- the plan has a tree, unless there is no constraint, and its leaves are all constraints, each once; a block is one of them
pub record UsesEachOnce (g : Graph) (p : ThePlan) : Type 0 where
  pub tree : numbers_of g ≢ [] → (t : Tree) × IsPlanTree p t
  pub leaves : (t : Tree) → IsPlanTree p t → HasLeaves t (numbers_of g)

-- where the plan places the elements, all of them and no others, each normal and each constraint holds within the tolerance,
-- which is the least, none is above the limit, and all signs are as drawn, or for a block as its places are given
pub record HoldsAt (request : Request) (s : Sketch) (p : ThePlan) (at : Placed) (t : Tolerance) : Type 0 where
  pub plan : IsItsPlan request s p
  pub lie : LieAt request s p at
  pub exactly : PlacesExactly (graph_of s) at
  pub holds : AllHoldWithin at (graph_of s) t.t t.w
  pub least : IsTolerance at (graph_of s) t
  pub within : NonePasses request s at
  pub drawn : AllAsDrawn (signs s at p)

-- the first faulty step of the plan is named; else the first box that can't be carried to the drawing; else, where the boxes
-- have their midpoints, the first line or constraint above the limit; else the first turned sign
abbrev pub NamesTheFirst : Request → Sketch → List ℕ → Type 0
NamesTheFirst request s text =
    (p : ThePlan) × IsItsPlan request s p
    × (((f : StepFault) × IsFaultAt request s p f × (text ≡ fault_line s f (digits_of request.bits)))
    ⊎ (((f : BoxFault) × IsOff request s p f × (text ≡ frame_fault_line s f (digits_of request.bits)))
    ⊎ (((at : Placed) × (b : Beyond) × LieAt request s p at × IsFirstBeyond at (everything (graph_of s)) request.within b × (text ≡ passed_line s b))
    ⊎ ((at : Placed) × (sign : Turned) × LieAt request s p at × NonePasses request s at × IsFirst IsTurned (signs s at p) sign × (text ≡ turned_line sign)))))

-- where the plan of the sketch places its elements, and they hold, they are written; else what fails first is named
abbrev pub TellsPlaces : Request → Sketch → List ℕ → Type 0
TellsPlaces request s text =
    ((p : ThePlan) × (at : Placed) × (t : Tolerance) × HoldsAt request s p at t × (text ≡ shape_report s p (digits_of request.bits) at t))
    ⊎ NamesTheFirst request s text

-- the verdict, and the line of each part; below that of a part that isn't over it is told where its own sketch lies, and holds, or
-- else what fails first in it
abbrev pub TellsParts : Request → Sketch → List ℕ → Type 0
TellsParts request s text =
    (j : Judgement) × (lines : List ℕ) × IsTheJudgement (graph_of s) j × TellsClusters (graph_of s) j
    × EachStands (TellsPlaces request) s 1 j.parts lines × (text ≡ parts_head j ++ lines)

-- Of the own sketch of a part that is over: where the constraints that stay place its elements, and they hold, there is told how
-- far off each is that is left out; where they don't, what fails first is named; else they are over still.
abbrev pub TellsKept : Request → Sketch → List ℕ → Type 0
TellsKept request own text =
    (left : List ConId) × AreLeftOut (graph_of own) left
    × (((p : ThePlan) × (at : Placed) × (t : Tolerance) × HoldsAt request (kept_sketch left own) p at t × AreOffsTold request.within own at left text)
    ⊎ (((fault : List ℕ) × NamesTheFirst request (kept_sketch left own) fault × (text ≡ left_lines own left ++ fault))
    ⊎ IsOverLeft own left text))

-- how many parts are over, and of each its line and what is told of its own sketch
abbrev pub TellsExcess : Request → Sketch → List ℕ → Type 0
TellsExcess request s text =
    (j : Judgement) × (lines : List ℕ) × IsTheJudgement (graph_of s) j × TellsClusters (graph_of s) j
    × EachOverStands (TellsKept request) s 1 j.parts lines × (text ≡ excess_head (over_count j.parts) ++ lines)

-- What a command tells of a sketch by its status and its text. Where it writes the check report, its clusters. A command that
-- plans has the status NotWell exactly where the verdict isn't well; `plan` writes a plan exactly where just one part remains and
-- isn't over, and the plan uses each constraint once. A command that solves the sketch writes where the elements lie, and hold, or
-- else what fails first; `parts` tells the same of the own sketch of each part that isn't over, and `excess` of what stays of
-- each part that is.
pub record Tells (command : Command) (request : Request) (s : Sketch) (status : Status) (text : List ℕ) : Type 0 where
  pub clusters : WritesCheckReport command status → EndsWithClusters command s text
  pub not_well : IsTrue (plans command) → (status ≡ NotWell) ↔ ¬ IsWell (graph_of s)
  pub planned : command ≡ Plan → (j : Judgement) × IsTheJudgement (graph_of s) j × ((status ≡ Done) ↔ IsOneSoundPart j)
  pub plan : command ≡ Plan → status ≡ Done → (p : ThePlan) × IsItsPlan request s p × UsesEachOnce (graph_of s) p × (text ≡ plan_report s p)
  pub placed : IsTrue (solves command) → status ≡ Done
      → (report : Report) × (p : ThePlan) × (at : Placed) × (t : Tolerance) × IsReportOf command report × HoldsAt request s p at t
      × (text ≡ report_words report (digits_of request.bits) s p at t)
  pub failure : IsTrue (solves command) → status ≢ Done → status ≢ NotWell → NamesTheFirst request s text
  pub parts : command ≡ Tell Shapes → TellsParts request s text
  pub excess : command ≡ Tell Excesses → TellsExcess request s text

-- the sketch has an element, and the command tells this of it
abbrev pub TellsOfSome : Command → Request → Sketch → Status → List ℕ → Type 0
TellsOfSome command request s status text = (0 < length s.elements) × Tells command request s status text

-- the reply to a question tells of the sketch what the command of that name does; of other replies nothing is claimed
abbrev pub TellsAsAsked : Request → Sketch → Reply → List ℕ → Type 0
TellsAsAsked request s (reply.Checked j) text = TellsOfSome (Tell Judged) request s Done text
TellsAsAsked request s (reply.Planned p) text = TellsOfSome Plan request s Done text
TellsAsAsked request s (reply.NotWell j) text = TellsOfSome Plan request s NotWell text
TellsAsAsked request s reply.Solve text = (status : Status) × TellsOfSome Solve request s status text
TellsAsAsked request s r text = Unit {0}

-- some lines at the front of the input are answered, and the next one is answered so
pub record RepliesNext (request : Request) (bytes before : List ℕ) (new : State) (r : Reply) (text : List ℕ) : Type 0 where
  pub front : RepliesToFront request bytes before
  pub line : List ℕ
  pub lines : List (List ℕ)
  pub next : front.after ≡ line ∷ lines
  pub replied : IsReplied request front.state line new r text

-- some lines at the front of those in time are answered by `live`, and the next one is answered so
pub record RepliesNextLive (request : Request) (bytes before : List ℕ) (new : State) (r : Reply) (text : List ℕ) : Type 0 where
  pub front : RepliesInTime request bytes before
  pub line : List ℕ
  pub lines : List (List ℕ)
  pub next : front.after ≡ line ∷ lines
  pub replied : IsReplied request front.state line new r text
