-- What is told of a sketch whose plan is placed, or that has none.
use Rattle.std.specs.Prelude.{◌≡◌, ◌≢◌, ◌⊎◌, ℕ, List}
use Rattle.sk_base.specs.declared.Sketch.{Sketch}
use Rattle.sk_graph.specs.SketchGraph.{graph_of}
use Rattle.sk_verdict.specs.declared.Judgement.{Judgement}
use Rattle.sk_verdict.specs.declared.Verdict.TheVariants.{Well}
use Rattle.sk_tree.specs.declared.Plan.{Plan as ThePlan}
use Rattle.sk_plan.specs.Judged.{IsTheJudgement}
use Rattle.sk_plan.specs.PlanBy.{IsPlanBy}
use Rattle.sk_report.specs.CheckReport.{check_report}
use Rattle.sk_solve.specs.declared.Placement.{Placement}
use Rattle.sk_request.specs.declared.Request.{Request}
use Rattle.sk_cli.specs.declared.solving.Report.{Report}
use Rattle.sk_answers.specs.declared.Status.{Status}
use Rattle.sk_answers.specs.declared.Status.TheVariants.{NotWell}
use Rattle.sk_request.specs.Grids.{grid_of, digits_of}
use Rattle.sk_cli.specs.Solving.{IsPlacement, status_of, placement_words}

-- the verdict isn't well, and this is the check report
abbrev pub IsReportNotWell : Sketch → List ℕ → Type 0
IsReportNotWell s text = (j : Judgement) × IsTheJudgement (graph_of s) j × (j.verdict ≢ Well) × (text ≡ check_report s j)

-- the plan by the order is placed so on the grid
pub record IsPlacedPlan (request : Request) (s : Sketch) (p : ThePlan) (placement : Placement) : Type 0 where
  pub plan : IsPlanBy request.order s p
  pub placed : IsPlacement (grid_of request.bits) request.layout (digits_of request.bits) request.within s p placement

-- what is written of the placed plan; or the verdict isn't well, and this is the check report
abbrev pub IsSolved : Report → Request → Sketch → Status → List ℕ → Type 0
IsSolved report request s status text =
    ((p : ThePlan) × (placement : Placement) × IsPlacedPlan request s p placement × (status ≡ status_of placement)
    × (text ≡ placement_words report (digits_of request.bits) s p placement))
    ⊎ ((status ≡ NotWell) × IsReportNotWell s text)
