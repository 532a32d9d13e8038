use Rattle.std.proofs.Common.{◌≡◌, ◌≢◌, ◌⊎◌, inl, inr, ℕ, List, ◌++◌, sym, subst}
use Rattle.sk_base.specs.declared.Sketch.{Sketch}
use Rattle.sk_graph.specs.SketchGraph.{graph_of}
use Rattle.sk_lang.specs.Canonical.{canonical}
use Rattle.sk_lang.specs.Reading.{Reads}
use Rattle.sk_plan.specs.Judged.{IsTheJudgement, IsWell}
use Rattle.sk_report.specs.CheckReport.{check_report}
use Rattle.sk_verdict.specs.declared.Judgement.{Judgement}
use Rattle.sk_complete.specs.Completions.{Completes}
use Rattle.sk_complete.specs.CompletionText.{no_completion}
use Rattle.sk_complete.specs.declared.Completion.{Completion}
use Rattle.sk_complete.specs.declared.Reason.{Reason}
use Rattle.sk_complete.specs.declared.Completion.TheVariants as completion
use Rattle.sk_request.specs.Asking.{Asks}
use Rattle.sk_request.specs.declared.Command.{Command}
use Rattle.sk_request.specs.declared.Command.TheVariants.{Complete}
use Rattle.sk_request.specs.declared.Request.{Request}
use Rattle.sk_answers.specs.declared.Status.{Status}
use Rattle.sk_answers.specs.declared.Status.TheVariants.{Done, NotWell}
use Rattle.sk_cli.specs.CompleteAnswer.{IsCompletionGiven, IsGiven, IsCompletedOrNot, IsCompleteAnswer, completion_status}
use Rattle.sk_cli.specs.Outcome.{IsAnswerOf, IsOutcome}
use Rattle.sk_cli.proofs.CompleteTold.{told_complete}
use Rattle.sk_laws.proofs.OneOutcome.{OneSketch, NotBoth}
use Rattle.sk_laws.proofs.WhyEnds.{answer_about}
use Rattle.sk_laws.proofs.law.completions_are_right.Goals as goal

-- the answer to words that ask for `complete`
complete_about : (words : List (List ℕ)) (bytes text : List ℕ) (status : Status) (request : Request) → IsOutcome words bytes status text → Asks words request → request.command ≡ Complete → IsCompleteAnswer bytes status text
complete_about words bytes text status request outcome asks is = subst (λ (command : Command). IsAnswerOf command request bytes status text) is (answer_about words bytes text status request outcome asks)

-- what is told of the sketch that was read
given_about : OneSketch → NotBoth → (bytes text : List ℕ) (status : Status) (s : Sketch) → Reads bytes s → IsCompleteAnswer bytes status text → IsCompletedOrNot s status text
given_about one_sketch not_both bytes text status s reads answer =
    elim (told_complete bytes status text answer) [
      | inl (is, (r, refuses, line)) ↦ absurd (not_both bytes s r.line r.code reads refuses)
      | inr (t, reads', told) ↦ subst (λ (z : Sketch). IsCompletedOrNot z status text) (one_sketch bytes t s reads' reads) told
    ]

one_of_two : (status : Status) (c : Completion) → status ≡ completion_status c → (status ≡ Done) ⊎ (status ≡ NotWell)
one_of_two status (completion.Done t) is = inl is
one_of_two status (completion.Without why) is = inr is

well_done : (s : Sketch) (text : List ℕ) (status : Status) → IsWell (graph_of s) → (c : Completion) → IsGiven s c text → status ≡ completion_status c → status ≡ Done
well_done s text status well (completion.Done t) given is = is
well_done s text status well (completion.Without why) given is = absurd (given.given.completes.0 well)

not_done : (why : Reason) → Done ≢ completion_status (completion.Without why)
not_done why is = cc

not_short : (t : Sketch) → NotWell ≢ completion_status (completion.Done t)
not_short t is = cc

by_done : (s : Sketch) (text : List ℕ) → ((t : Sketch) → Completes s t → Reads (canonical t) t) → (c : Completion) → IsGiven s c text → Done ≡ completion_status c
    → (t : Sketch) × Completes s t × (text ≡ canonical t) × Reads text t
by_done s text reads (completion.Done t) given is =
    let completes : Completes s t = given.given.completes in (t, completes, given.is, subst (λ z. Reads z t) (sym given.is) (reads t completes))
by_done s text reads (completion.Without why) given is = absurd (not_done why is)

by_none : (s : Sketch) (text : List ℕ) → (c : Completion) → IsGiven s c text → NotWell ≡ completion_status c
    → (why : Reason) × (j : Judgement) × IsTheJudgement (graph_of s) j × IsCompletionGiven s (completion.Without why) × (text ≡ no_completion why ++ check_report s j)
by_none s text (completion.Done t) given is = absurd (not_short t is)
by_none s text (completion.Without why) given is = (why, given.judgement, given.judged, given.given, given.is)

pub returns : goal.returns
returns c =
    let one_sketch = c.one_answer.ensures.one_sketch in
    let not_both = c.one_answer.ensures.not_both in
    record {
      done = λ words bytes text request s outcome asks is reads.
          (let told = given_about one_sketch not_both bytes text Done s reads (complete_about words bytes text Done request outcome asks is) in
          by_done s text (λ t. c.completed_reads.ensures bytes s t reads) told.0 told.1 told.2);
      none = λ words bytes text request s outcome asks is reads.
          (let told = given_about one_sketch not_both bytes text NotWell s reads (complete_about words bytes text NotWell request outcome asks is) in by_none s text told.0 told.1 told.2);
      ends = λ words bytes text status request outcome asks is never.
          elim (told_complete bytes status text (complete_about words bytes text status request outcome asks is)) [
            | inl (refused, line) ↦ absurd (never refused)
            | inr (s, reads, (d, given, told)) ↦ one_of_two status d told
          ];
      well = λ words bytes text status request s outcome asks is reads well.
          (let told = given_about one_sketch not_both bytes text status s reads (complete_about words bytes text status request outcome asks is) in
          well_done s text status well told.0 told.1 told.2);
    }
