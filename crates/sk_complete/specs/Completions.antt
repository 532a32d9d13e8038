-- Completions of a sketch.
use Rattle.std.specs.Prelude.{◌≡◌, ◌+◌, ◌<◌, ◌≤◌, List, length, All}
use Rattle.sk_base.specs.declared.Constraint.{Constraint}
use Rattle.sk_base.specs.declared.Element.{Element}
use Rattle.sk_base.specs.declared.Graph.{Graph}
use Rattle.sk_base.specs.declared.Sketch.{Sketch}
use Rattle.sk_base.specs.Drawn.{IsLine}
use Rattle.sk_base.specs.SoundSketch.{IsSoundSketch}
use Rattle.sk_graph.specs.SketchGraph.{graph_of}
use Rattle.sk_plan.specs.Judged.{IsTheJudgement, IsWell}
use Rattle.sk_verdict.specs.declared.Judgement.{Judgement}
use Rattle.sk_verdict.specs.declared.Verdict.{Verdict}
use Rattle.sk_verdict.specs.declared.Verdict.TheVariants.{Over}
use Rattle.sk_complete.specs.declared.completion.Completion.{Completion}
use Rattle.sk_complete.specs.declared.completion.Completion.TheVariants.{Done, Without}
use Rattle.sk_complete.specs.declared.completion.Reason.{Reason}
use Rattle.sk_complete.specs.declared.completion.Reason.TheVariants as reason
use Rattle.sk_complete.specs.Weights.{weight_together, due_for}
use Rattle.sk_complete.specs.Rings.{HasRing}
use Rattle.sk_complete.specs.Begun.{HasMore, AreNumberedBehind, IsDrawnConstraint, last_number}

-- t is sound and well, and has besides the constraints of s just as many drawn values as are missing, with numbers that
-- count on
pub record Completes (s t : Sketch) : Type 0 where
  pub added : List Constraint
  pub more : HasMore s t added
  pub numbered : AreNumberedBehind (last_number s.constraints) added
  pub drawn : All (IsDrawnConstraint s) added
  pub sound : IsSoundSketch t
  pub well : IsWell (graph_of t)
  pub count : weight_together s.constraints + length added ≡ due_for s

-- the verdict on the graph
abbrev pub HasVerdict : Graph → Verdict → Type 0
HasVerdict g verdict = (j : Judgement) × IsTheJudgement g j × (j.verdict ≡ verdict)

-- more than two elements, all of them lines: however the angles are, the lines may be moved
abbrev pub HasLinesAlone : Sketch → Type 0
HasLinesAlone s = (2 < length s.elements) × All (λ (e : Element). IsLine e.shape) s.elements

-- what a reason tells of a sketch that has no completion
abbrev pub Tells : Sketch → Reason → Type 0
Tells s reason.Over = HasVerdict (graph_of s) Over
Tells s reason.Lines = HasLinesAlone s
Tells s reason.Angles = HasRing s
Tells s reason.Enough = due_for s ≤ weight_together s.constraints
Tells s reason.Stuck = weight_together s.constraints < due_for s

-- a completion, or why there is none, which is said only of a sketch that isn't well
abbrev pub IsCompletionOf : Sketch → Completion → Type 0
IsCompletionOf s (Done t) = Completes s t
IsCompletionOf s (Without why) = (¬ IsWell (graph_of s)) × Tells s why
