-- What `solve` writes of the constraints that stay in a part that is over, and what holds of the whole part where each line says
-- that a constraint that is left out repeats these.
use Rattle.std.specs.Prelude.{◌≡◌, ◌⊎◌, ℕ, List, [], ◌∷◌, ◌++◌, Contains, codes}
use Rattle.sk_base.specs.declared.ConId.{ConId}
use Rattle.sk_base.specs.declared.Placed.{Placed}
use Rattle.sk_base.specs.declared.Sketch.{Sketch}
use Rattle.sk_graph.specs.SketchGraph.{graph_of}
use Rattle.sk_verdict.specs.declared.Judgement.{Judgement}
use Rattle.sk_tree.specs.declared.Plan.{Plan as ThePlan}
use Rattle.sk_plan.specs.Judged.{IsTheJudgement}
use Rattle.sk_measure.specs.Placing.{PlacesExactly}
use Rattle.sk_tolerance.specs.declared.Tolerance.{Tolerance}
use Rattle.sk_tolerance.specs.Tolerances.{AllHoldWithin}
use Rattle.sk_tolerance.specs.Turns.{constraint_signs, AllAsDrawn}
use Rattle.sk_excess.specs.LeftOut.{AreLeftOut}
use Rattle.sk_excess.specs.KeptSketch.{kept_sketch}
use Rattle.sk_report.specs.ExcessReport.{excess_head, left_words, left_lines, stays_over}
use Rattle.sk_report.specs.SolveReport.{solve_report}
use Rattle.sk_request.specs.declared.Request.{Request}
use Rattle.sk_request.specs.Grids.{digits_of}
use Rattle.sk_cli.specs.declared.Report.TheVariants.{Places}
use Rattle.sk_answers.specs.declared.Status.{Status}
use Rattle.sk_answers.specs.declared.Status.TheVariants as status
use Rattle.sk_cli.specs.ExcessReport.{AreOffsTold, EachOverStands, over_count}
use Rattle.sk_cli.specs.Solved.{IsSolved}

-- `solve` with the same keys ends so with the own sketch of a part without the constraints that are left out. Where it is done,
-- these are measured where it places the elements. Where something fails, they have a line each, and its one line stands behind
-- them; where the verdict isn't well, the line that the part stays over.
abbrev pub IsByKept : Request → Sketch → List ConId → List ℕ → Type 0
IsByKept request own left text =
    (ending : Status) × (solved : List ℕ) × IsSolved Places request (kept_sketch left own) ending solved
    × (((ending ≡ status.Done) × ((p : ThePlan) × (at : Placed) × (t : Tolerance) × (solved ≡ solve_report (kept_sketch left own) p (digits_of request.bits) at t) × AreOffsTold request.within own at left text))
    ⊎ ((((ending ≡ status.StepFault) ⊎ (ending ≡ status.Tolerance)) × (text ≡ left_lines own left ++ solved))
    ⊎ ((ending ≡ status.NotWell) × (text ≡ left_lines own left ++ stays_over))))

-- for each of these constraints, in order, a line that says that it repeats the others
abbrev pub AreRepeats : Sketch → List ConId → List ℕ → Type 0
AreRepeats s [] text = text ≡ []
AreRepeats s (k ∷ left) text =
    (by : List ℕ) × (more : List ℕ) × (¬ Contains by 10) × AreRepeats s left more × (text ≡ left_words s k ++ (codes " repeat off" ++ (by ++ 10 ∷ more)))

-- where the elements lie so, all of them and no others, each normal, each constraint and each block of the sketch holds within the
-- limit, and neither an angle nor a block is turned
pub record AllFit (limit : ℕ) (s : Sketch) (at : Placed) : Type 0 where
  pub exactly : PlacesExactly (graph_of s) at
  pub holds : AllHoldWithin at (graph_of s) limit limit
  pub drawn : AllAsDrawn (constraint_signs s at s.constraints)

-- where each line on the part says so, `solve` with the same keys is done with its own sketch without the constraints that are
-- left out, and where it places the elements all constraints of the own sketch fit
abbrev pub FitsWhereRepeated : Request → Sketch → List ℕ → Type 0
FitsWhereRepeated request own text =
    (left : List ConId) × AreLeftOut (graph_of own) left
    × (AreRepeats own left text → (p : ThePlan) × (at : Placed) × (t : Tolerance)
    × IsSolved Places request (kept_sketch left own) status.Done (solve_report (kept_sketch left own) p (digits_of request.bits) at t) × AllFit request.within own at)

-- so of each part that is over
abbrev pub FitWhereRepeated : Request → Sketch → List ℕ → Type 0
FitWhereRepeated request s text =
    (j : Judgement) × (lines : List ℕ) × IsTheJudgement (graph_of s) j × EachOverStands (FitsWhereRepeated request) s 1 j.parts lines
    × (text ≡ excess_head (over_count j.parts) ++ lines)
