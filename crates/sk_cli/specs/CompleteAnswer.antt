-- What `complete` answers to a sketch.
use Rattle.std.specs.Prelude.{◌≡◌, ◌↔◌, ◌≤◌, ℕ, List}
use Rattle.sk_base.specs.declared.Sketch.{Sketch}
use Rattle.sk_graph.specs.SketchGraph.{graph_of}
use Rattle.sk_lang.specs.Reading.{Reads, Refuses}
use Rattle.sk_lines.specs.declared.Refusal.{Refusal as OneRefusal}
use Rattle.sk_plan.specs.Judged.{IsTheJudgement}
use Rattle.sk_verdict.specs.declared.Judgement.{Judgement}
use Rattle.sk_verdict.specs.declared.Verdict.TheVariants as verdict
use Rattle.sk_complete.specs.declared.Completion.{Completion}
use Rattle.sk_complete.specs.declared.Completion.TheVariants as completion
use Rattle.sk_complete.specs.declared.Reason.TheVariants as reason
use Rattle.sk_complete.specs.Completions.{IsCompletionOf, HasVerdict, HasLinesAlone}
use Rattle.sk_complete.specs.Rings.{HasRing}
use Rattle.sk_complete.specs.Weights.{weight_together, due_for}
use Rattle.sk_complete.specs.CompletionText.{completion_text}
use Rattle.sk_report.specs.RefusalLine.{refusal_line}
use Rattle.sk_answers.specs.declared.Status.{Status}
use Rattle.sk_answers.specs.declared.Status.TheVariants.{Done, Refused, NotWell}

-- a completion of the sketch, or why none is given: each reason but `stuck` just where it holds and none before it does
pub record IsCompletionGiven (s : Sketch) (c : Completion) : Type 0 where
  pub completes : IsCompletionOf s c
  pub over : (c ≡ completion.Without reason.Over) ↔ HasVerdict (graph_of s) verdict.Over
  pub lines : (c ≡ completion.Without reason.Lines) ↔ ((¬ HasVerdict (graph_of s) verdict.Over) × HasLinesAlone s)
  pub angles : (c ≡ completion.Without reason.Angles) ↔ (HasVerdict (graph_of s) verdict.Several × (¬ HasLinesAlone s) × HasRing s)
  pub enough : (c ≡ completion.Without reason.Enough) ↔ (HasVerdict (graph_of s) verdict.Several × (¬ HasLinesAlone s) × (¬ HasRing s) × (due_for s ≤ weight_together s.constraints))

-- this completion is given, or that there is none for this reason
pub record IsGiven (s : Sketch) (c : Completion) (text : List ℕ) : Type 0 where
  pub judgement : Judgement
  pub judged : IsTheJudgement (graph_of s) judgement
  pub given : IsCompletionGiven s c
  pub is : text ≡ completion_text s judgement c

abbrev pub completion_status : Completion → Status
completion_status (completion.Done t) = Done
completion_status (completion.Without why) = NotWell

-- what is told of a sketch that is read
abbrev pub IsCompletedOrNot : Sketch → Status → List ℕ → Type 0
IsCompletedOrNot s status text = (c : Completion) × IsGiven s c text × (status ≡ completion_status c)

-- what `complete` answers to an input
abbrev pub IsCompleteAnswer : List ℕ → Status → List ℕ → Type 0
IsCompleteAnswer bytes Refused text = (r : OneRefusal) × Refuses bytes r.line r.code × (text ≡ refusal_line r)
IsCompleteAnswer bytes status text = (s : Sketch) × Reads bytes s × IsCompletedOrNot s status text
