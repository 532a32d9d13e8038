-- What `plan` and `solve` print of one input in the same order is of one plan.
use Rattle.std.proofs.Common.{◌≡◌, ◌∙◌, inl, inr, refl, ap, subst, ℕ, List}
use Rattle.sk_base.specs.declared.Placed.{Placed}
use Rattle.sk_base.specs.declared.Sketch.{Sketch}
use Rattle.sk_graph.proofs.Soundness.{graph_is_sound}
use Rattle.sk_lang.specs.Reading.{Reads}
use Rattle.sk_report.specs.PlanReport.{plan_report}
use Rattle.sk_report.specs.SolveReport.{solve_report}
use Rattle.sk_tolerance.specs.declared.Tolerance.{Tolerance}
use Rattle.sk_tree.specs.declared.Plan.{Plan as ThePlan}
use Rattle.sk_plan.specs.PlanBy.{IsPlanBy}
use Rattle.sk_plan.proofs.OnePlan.{one_plan_by}
use Rattle.sk_request.specs.declared.Request.{Request}
use Rattle.sk_cli.specs.declared.Report.TheVariants.{Places}
use Rattle.sk_answers.specs.declared.Status.{Status}
use Rattle.sk_answers.specs.declared.Status.TheVariants.{Done, Refused}
use Rattle.sk_request.specs.Grids.{digits_of}
use Rattle.sk_laws.specs.Headline.{HoldsAt}
use Rattle.sk_cli.specs.Outcome.{IsPlanAnswer, IsPlanOrReport, IsSolveAnswer}
use Rattle.sk_laws.proofs.OneOutcome.{OneSketch, NotBoth, OneJudgement, LowerLaws, told_plan, told_planned, told_solve}
use Rattle.sk_laws.proofs.Printed.{solved_text}
use Rattle.sk_laws.proofs.WhyEnds.{planned_not_well}

-- one sketch, one plan of it, where it places the elements, and within which tolerance
pub record ArePrinted (solved_by : Request) (bytes planned solved : List ℕ) (status : Status) : Type 0 where
  pub sketch : Sketch
  pub plan : ThePlan
  pub at : Placed
  pub tolerance : Tolerance
  pub reads : Reads bytes sketch
  pub holds : HoldsAt solved_by sketch plan at tolerance
  pub done : status ≡ Done
  pub planned_is : planned ≡ plan_report sketch plan
  pub solved_is : solved ≡ solve_report sketch plan (digits_of solved_by.bits) at tolerance

pub printed_of_one : OneSketch → NotBoth → OneJudgement → LowerLaws → (planned_by solved_by : Request) (bytes planned solved : List ℕ) (status : Status) → planned_by.order ≡ solved_by.order
    → IsPlanAnswer planned_by.order bytes status planned → IsSolveAnswer Places solved_by bytes Done solved → ArePrinted solved_by bytes planned solved status
printed_of_one one_sketch not_both law laws planned_by solved_by bytes planned solved status same plan solve =
    elim (told_solve Places solved_by bytes Done solved solve) [
      | inl (refused, line) ↦ absurd (let clash : Done ≡ Refused = refused in cc)
      | inr (s, reads, told) ↦ (
          let sound = graph_is_sound s (laws.sound bytes s reads) in
          let found = solved_text Places solved_by s Done solved sound told refl in
          elim (told_plan planned_by.order bytes status planned plan) [
            | inl (refused, (r, refuses, is)) ↦ absurd (not_both bytes s r.line r.code reads refuses)
            | inr (u, reads', told') ↦ (
                let here : IsPlanOrReport planned_by.order s status planned = subst (λ z. IsPlanOrReport planned_by.order z status planned) (one_sketch bytes u s reads' reads) told' in
                elim (told_planned planned_by.order s status planned here) [
                  | inr (short, report) ↦ absurd ((planned_not_well law planned_by.order s status planned here).0 short found.3.plan.well)
                  | inl (done, (q, by, is)) ↦ record {
                    sketch = s;
                    plan = found.0;
                    at = found.1;
                    tolerance = found.2;
                    reads = reads;
                    holds = found.3;
                    done = done;
                    planned_is = is ∙ ap (λ z. plan_report s z) (one_plan_by solved_by.order s q found.0 sound (subst (λ order. IsPlanBy order s q) same by) found.3.plan);
                    solved_is = found.4;
                  }
                ])
          ])
    ]
