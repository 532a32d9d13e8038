-- What is told of the parts that are over: of each one minimal choice of constraints that stay is placed, and those that are
-- left out are measured there.
use Rattle.std.specs.Prelude.{◌≡◌, ◌≢◌, ◌⊎◌, ℕ, List, ◌++◌}
use Rattle.sk_base.specs.declared.ConId.{ConId}
use Rattle.sk_base.specs.declared.Placed.{Placed}
use Rattle.sk_base.specs.declared.Sketch.{Sketch}
use Rattle.sk_graph.specs.SketchGraph.{graph_of}
use Rattle.sk_verdict.specs.declared.Judgement.{Judgement}
use Rattle.sk_verdict.specs.declared.Part.{Part}
use Rattle.sk_tree.specs.declared.Plan.{Plan as ThePlan}
use Rattle.sk_plan.specs.Judged.{IsTheJudgement, IsWell}
use Rattle.sk_tolerance.specs.declared.Tolerance.{Tolerance}
use Rattle.sk_solve.specs.declared.Placement.{Placement}
use Rattle.sk_solve.specs.declared.Placement.TheVariants.{Holds}
use Rattle.sk_excess.specs.LeftOut.{AreLeftOut}
use Rattle.sk_excess.specs.KeptSketch.{kept_sketch}
use Rattle.sk_report.specs.ExcessReport.{excess_head, left_lines, off_line, stays_over}
pub use Rattle.sk_why.specs.OverParts.{StandsForOver, EachOverStands, over_count}
use Rattle.sk_request.specs.declared.Request.{Request}
use Rattle.sk_request.specs.Grids.{digits_of}
use Rattle.sk_cli.specs.declared.solving.Report.TheVariants.{Shape}
use Rattle.sk_answers.specs.declared.Status.TheVariants.{Done}
use Rattle.sk_answers.specs.OffsThere.{AreOffsPut}
use Rattle.sk_cli.specs.Solved.{IsPlacedPlan}
use Rattle.sk_cli.specs.Solving.{status_of, placement_words}

-- a line for each of these constraints, in order, with how far off it is, and what that makes it to the others
abbrev pub AreOffsTold : ℕ → Sketch → Placed → List ConId → List ℕ → Type 0
AreOffsTold limit s at left text = AreOffsPut (off_line s limit) s at left text

-- the kept sketch is placed and holds, and this tells how far off each constraint is that is left out
pub record IsMeasuredLeft (request : Request) (own : Sketch) (left : List ConId) (text : List ℕ) : Type 0 where
  pub plan : ThePlan
  pub at : Placed
  pub tolerance : Tolerance
  pub placed : IsPlacedPlan request (kept_sketch left own) plan (Holds at tolerance)
  pub told : AreOffsTold request.within own at left text

-- the kept sketch isn't placed, or doesn't hold: the constraints that are left out, and what fails first
pub record IsFaultyLeft (request : Request) (own : Sketch) (left : List ConId) (text : List ℕ) : Type 0 where
  pub plan : ThePlan
  pub placement : Placement
  pub placed : IsPlacedPlan request (kept_sketch left own) plan placement
  pub fails : status_of placement ≢ Done
  pub told : text ≡ left_lines own left ++ placement_words Shape (digits_of request.bits) (kept_sketch left own) plan placement

-- the kept sketch is over still
abbrev pub IsOverLeft : Sketch → List ConId → List ℕ → Type 0
IsOverLeft own left text = (¬ IsWell (graph_of (kept_sketch left own))) × (text ≡ left_lines own left ++ stays_over)

-- what is told of the own sketch of a part that is over
abbrev pub IsExcess : Request → Sketch → List ℕ → Type 0
IsExcess request own text =
    (left : List ConId) × AreLeftOut (graph_of own) left
    × (IsMeasuredLeft request own left text ⊎ (IsFaultyLeft request own left text ⊎ IsOverLeft own left text))

abbrev pub IsPartExcess : Request → Sketch → ℕ → Part → List ℕ → Type 0
IsPartExcess request s number p text = StandsForOver (IsExcess request) s number p text

abbrev pub AreExcessesTold : Request → Sketch → ℕ → List Part → List ℕ → Type 0
AreExcessesTold request s number parts text = EachOverStands (IsExcess request) s number parts text

-- how many parts are over, and what is told of each
abbrev pub IsExcessReport : Request → Sketch → List ℕ → Type 0
IsExcessReport request s text =
    (j : Judgement) × (lines : List ℕ) × IsTheJudgement (graph_of s) j × AreExcessesTold request s 1 j.parts lines × (text ≡ excess_head (over_count j.parts) ++ lines)
