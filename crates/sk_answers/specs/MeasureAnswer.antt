-- What `measure` answers to a sketch and the places behind it.
use Rattle.std.specs.Prelude.{◌≡◌, ℕ, List, [], ◌++◌, map, drop}
use Rattle.sk_base.specs.declared.ConId.{ConId}
use Rattle.sk_base.specs.declared.Constraint.{Constraint}
use Rattle.sk_base.specs.declared.Elem.{Elem}
use Rattle.sk_base.specs.declared.Placed.{Placed}
use Rattle.sk_base.specs.declared.Sketch.{Sketch}
use Rattle.sk_lines.specs.declared.Code.{Code}
use Rattle.sk_lines.specs.declared.Refusal.{Refusal}
use Rattle.sk_lang.specs.declared.Front.{Front}
use Rattle.sk_lang.specs.Front.{ReadsFront}
use Rattle.sk_graph.specs.SketchGraph.{graph_of}
use Rattle.sk_tolerance.specs.declared.Beyond.{Beyond}
use Rattle.sk_tolerance.specs.declared.Tolerance.{Tolerance as Least}
use Rattle.sk_tolerance.specs.declared.Turned.{Turned}
use Rattle.sk_tolerance.specs.First.{IsFirst}
use Rattle.sk_tolerance.specs.Tolerances.{AllHold, IsFirstBeyond, everything}
use Rattle.sk_tolerance.specs.Turns.{constraint_signs, AllAsDrawn, IsTurned}
use Rattle.sk_claims.specs.declared.claim.Claim.{Claim}
use Rattle.sk_claims.specs.PlaceReading.{ReadsPlaces, RefusesPlaces}
use Rattle.sk_verify.specs.Failing.{AllTold, IsFirstUntold}
use Rattle.sk_report.specs.FaultLines.{passed_line, turned_line}
use Rattle.sk_answers.specs.MeasureReport.{measured_line, unplaced_line}
use Rattle.sk_report.specs.RefusalLine.{refusal_line}
use Rattle.sk_report.specs.SolveReport.{tolerance_lines}
use Rattle.sk_answers.specs.declared.status.Status.{Status}
use Rattle.sk_answers.specs.declared.status.Status.TheVariants.{Done, Refused, StepFault, Tolerance, NotVerified}
use Rattle.sk_answers.specs.Fronts.{IsRefusedAt}
use Rattle.sk_answers.specs.OffsThere.{AreOffsPut}
use Rattle.sk_solve.specs.Placements.{IsTolerance}

-- the sketch is read as it stands up to its `end`, and what follows as the places of the claim
pub record HasPlaces (bytes : List ℕ) (front : Front) (claim : Claim) : Type 0 where
  pub sketch : ReadsFront bytes front
  pub placed : ReadsPlaces front.sketch (drop front.used bytes) claim

-- the numbers of all constraints, in order
abbrev pub all_numbers : Sketch → List ConId
all_numbers s = map (λ (c : Constraint). c.number) s.constraints

-- by how much the places are off each constraint, in order, and the least tolerances with which all holds there
pub record TellsOffs (s : Sketch) (at : Placed) (text : List ℕ) : Type 0 where
  pub lines : List ℕ
  pub least : Least
  pub offs : AreOffsPut (measured_line s) s at (all_numbers s) lines
  pub tolerance : IsTolerance at (graph_of s) least
  pub is : text ≡ lines ++ tolerance_lines s least

-- the first line or constraint above the limit, and else the first turned sign of a constraint, is told by status and line; else nothing
abbrev pub IsFaultThere : ℕ → Sketch → Placed → Status → List ℕ → Type 0
IsFaultThere limit s at Done line = AllHold at (everything (graph_of s)) limit × AllAsDrawn (constraint_signs s at s.constraints) × (line ≡ [])
IsFaultThere limit s at Tolerance line = (b : Beyond) × IsFirstBeyond at (everything (graph_of s)) limit b × (line ≡ passed_line s b)
IsFaultThere limit s at StepFault line =
    AllHold at (everything (graph_of s)) limit × ((sign : Turned) × IsFirst IsTurned (constraint_signs s at s.constraints) sign × (line ≡ turned_line sign))
IsFaultThere limit s at status line = ⊥

-- what is told where all elements are placed
pub record IsMeasuredThere (limit : ℕ) (s : Sketch) (at : Placed) (status : Status) (text : List ℕ) : Type 0 where
  pub offs : List ℕ
  pub line : List ℕ
  pub told : TellsOffs s at offs
  pub fault : IsFaultThere limit s at status line
  pub is : text ≡ offs ++ line

-- the first element is named that has no place, or another radius than its own; else all are measured
abbrev pub IsMeasurement : ℕ → Sketch → Claim → Status → List ℕ → Type 0
IsMeasurement limit s c NotVerified text = (e : Elem) × IsFirstUntold c s.elements e × (text ≡ unplaced_line s e)
IsMeasurement limit s c status text = AllTold c s.elements × IsMeasuredThere limit s c.at status text

-- the text behind a sketch is refused as places, on a line that is counted from the first of the whole text
abbrev pub RefusesPlacesBehind : Front → List ℕ → ℕ → Code → Type 0
RefusesPlacesBehind front = RefusesPlaces front.sketch front.lines

-- a line of the sketch or one of the places is refused
abbrev pub IsMeasureRefusal : List ℕ → List ℕ → Type 0
IsMeasureRefusal bytes text = (r : Refusal) × IsRefusedAt RefusesPlacesBehind bytes r × (text ≡ refusal_line r)

-- the sketch and the places are read, and measured
abbrev pub IsReadAndMeasured : ℕ → List ℕ → Status → List ℕ → Type 0
IsReadAndMeasured limit bytes status text = (front : Front) × (claim : Claim) × HasPlaces bytes front claim × IsMeasurement limit front.sketch claim status text

-- what `measure` answers to an input
abbrev pub IsMeasureAnswer : ℕ → List ℕ → Status → List ℕ → Type 0
IsMeasureAnswer limit bytes Refused text = IsMeasureRefusal bytes text
IsMeasureAnswer limit bytes status text = IsReadAndMeasured limit bytes status text
