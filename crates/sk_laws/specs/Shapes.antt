-- What `parts` tells of one sketch, and `solve` too.
use Rattle.std.specs.Prelude.{◌≡◌, ◌≢◌, ◌⊎◌, List, [], ◌∷◌, ◌++◌, codes, ℕ}
use Rattle.sk_base.specs.declared.Sketch.{Sketch}
use Rattle.sk_graph.specs.SketchGraph.{graph_of}
use Rattle.sk_verdict.specs.declared.Judgement.{Judgement}
use Rattle.sk_verdict.specs.declared.Part.{Part}
use Rattle.sk_plan.specs.Judged.{IsTheJudgement}
use Rattle.sk_report.specs.CheckReport.{part_line, parts_head}
use Rattle.sk_request.specs.declared.Request.{Request}
use Rattle.sk_answers.specs.declared.Status.{Status}
use Rattle.sk_answers.specs.declared.Status.TheVariants.{Done}
use Rattle.sk_cli.specs.declared.Report.TheVariants.{Places}
use Rattle.sk_cli.specs.PartsReport.{IsShape}
use Rattle.sk_cli.specs.Solved.{IsSolved}

-- what `solve` writes of the sketch: the verdict before its shape where it is done, and else the line of what fails alone
abbrev pub IsSolvedAs : Request → Sketch → List ℕ → Type 0
IsSolvedAs request s shape =
    (status : Status) × (text : List ℕ) × IsSolved Places request s status text
    × (((status ≡ Done) × (text ≡ codes "verdict well\n" ++ shape)) ⊎ ((status ≢ Done) × (text ≡ shape)))

-- one part, and below it the shape of the sketch itself
pub record IsOneShape (request : Request) (s : Sketch) (text : List ℕ) : Type 0 where
  pub judgement : Judgement
  pub judged : IsTheJudgement (graph_of s) judgement
  pub part : Part
  pub alone : judgement.parts ≡ part ∷ []
  pub shape : List ℕ
  pub is_shape : IsShape request s shape
  pub is : text ≡ parts_head judgement ++ (part_line s 1 part ++ shape)
