-- How a plan is placed on a grid, and what is answered then.
use Rattle.std.specs.Prelude.{ℕ, List}
use Rattle.sk_base.specs.declared.Placed.{Placed}
use Rattle.sk_base.specs.declared.Sketch.{Sketch}
use Rattle.sk_tree.specs.declared.Plan.{Plan as ThePlan}
use Rattle.sk_place.specs.declared.Layout.{Layout}
use Rattle.sk_tolerance.specs.declared.Tolerance.{Tolerance}
use Rattle.sk_tolerance.specs.declared.Wanted.TheVariants.{Drawn}
use Rattle.sk_report.specs.SolveReport.{shape_report, solve_report}
use Rattle.sk_report.specs.GrowReport.{grow_report}
use Rattle.sk_dxf.specs.Entities.{dxf_of}
use Rattle.sk_report.specs.FaultLines.{fault_line, frame_fault_line, passed_line, turned_line}
pub use Rattle.sk_solve.specs.Placements.{midpoints, IsTolerance, LiesWithinBounds}
use Rattle.sk_solve.specs.Placements.{IsMeasured as IsMeasuredAs, IsPlacement as IsPlacementAs}
use Rattle.sk_solve.specs.declared.Placement.{Placement}
use Rattle.sk_solve.specs.declared.Placement.TheVariants.{Fault, Uncarried, Beyond, Turned, Holds}
use Rattle.sk_cli.specs.declared.solving.Report.{Report}
use Rattle.sk_cli.specs.declared.solving.Report.TheVariants.{Places, Drawing, Sums, Shape}
use Rattle.sk_answers.specs.declared.Status.{Status}

-- what is measured where elements lie, with the signs as they are drawn
abbrev pub IsMeasured : ℕ → Sketch → ThePlan → Placed → Placement → Type 0
IsMeasured limit s p at placement = IsMeasuredAs Drawn limit s p at placement

-- the first faulty step of the plan; else the first box that can't be carried to the drawing; else what is measured where the
-- boxes have their midpoints
abbrev pub IsPlacement : Type 0 → Layout → ℕ → ℕ → Sketch → ThePlan → Placement → Type 0
IsPlacement G placing F limit s p placement = IsPlacementAs Drawn G placing F limit s p placement

abbrev pub status_of : Placement → Status
status_of (Fault f) = Status.StepFault
status_of (Uncarried f) = Status.StepFault
status_of (Beyond b) = Status.Tolerance
status_of (Turned t) = Status.StepFault
status_of (Holds at t) = Status.Done

-- what is written where elements lie so: the report of `solve`, the drawing, the sums, or the lines of the report behind its
-- verdict
abbrev pub report_words : Report → ℕ → Sketch → ThePlan → Placed → Tolerance → List ℕ
report_words Places bits s p at t = solve_report s p bits at t
report_words Drawing bits s p at t = dxf_of s at
report_words Sums bits s p at t = grow_report s p at t
report_words Shape bits s p at t = shape_report s p bits at t

-- what is written of a placement: what failed, or else the report
abbrev pub placement_words : Report → ℕ → Sketch → ThePlan → Placement → List ℕ
placement_words report bits s p (Fault f) = fault_line s f bits
placement_words report bits s p (Uncarried f) = frame_fault_line s f bits
placement_words report bits s p (Beyond b) = passed_line s b
placement_words report bits s p (Turned t) = turned_line t
placement_words report bits s p (Holds at t) = report_words report bits s p at t
