-- A session has an answer to each input, and so has `live`.
use Rattle.std.proofs.Common.{◌≡◌, ◌≢◌, ◌⊎◌, inl, inr, refl, ℕ, ◌<◌, List, [], ◌∷◌, ◌++◌, length, sym, subst}
use Rattle.std.proofs.lemmas.Bool.{cases_lt}
use Rattle.sk_base.specs.declared.Sketch.{Sketch}
use Rattle.sk_base.specs.SoundSketch.{IsSoundSketch}
use Rattle.sk_family.specs.Clusters.{initial_clusters}
use Rattle.sk_graph.specs.SketchGraph.{graph_of}
use Rattle.sk_lines.specs.declared.Code.TheVariants.{E20}
use Rattle.sk_lines.specs.Lines.{lines_in}
use Rattle.sk_report.specs.RefusalLine.{refusal_line}
use Rattle.sk_close_by_order.specs.declared.Order.TheVariants as order
use Rattle.sk_close_by_order.specs.Orders.{place_of, next_call, place_below}
use Rattle.sk_session.specs.declared.Reply.{Reply}
use Rattle.sk_session.specs.declared.Reply.TheVariants as reply
use Rattle.sk_entry.specs.Growth.{empty_sketch}
use Rattle.sk_session.specs.Replies.{Answers}
use Rattle.sk_session.specs.State.{State, sketch_in}
use Rattle.sk_session.proofs.Consistency.{consistent_new}
use Rattle.sk_session.proofs.SomeReplies.{IsKept, GivenByLanguage, GivenBelow, some_reply}
use Rattle.sk_request.specs.declared.Request.{Request}
use Rattle.sk_cli.specs.declared.Report.TheVariants.{Places}
use Rattle.sk_answers.specs.declared.Status.{Status}
use Rattle.sk_answers.specs.declared.Status.TheVariants.{Done, Refused}
use Rattle.sk_live_lines.specs.InTime.{in_time}
use Rattle.sk_cli.specs.LiveAnswer.{RepliesInTime, IsLiveAnswer, late_line}
use Rattle.sk_cli.specs.SessionAnswer.{solve_with, IsReplyText, at_start, EndsSession, IsSessionAnswer, session_keys}
use Rattle.sk_live_lines.specs.Answering.{HasEnded}
use Rattle.sk_cli.specs.Solved.{IsSolved}
use Rattle.sk_cli.specs.Told.{told}
use Rattle.sk_cli.proofs.Sessions.{told_is_text, ends_or_not, Stands, stands_first, stands_next}
use Rattle.sk_plan.specs.PlanBy.{fresh}
use Rattle.sk_plan.proofs.SomePlans.{judgement_there, some_plan_by}
use Rattle.sk_close_by_order.proofs.SomeRuns.{some_run}

-- `solve` is answered only where there is something to solve
abbrev pub SomeToSolve : Type 0
SomeToSolve = (old new : State) (line : List ℕ) → Answers old line reply.Solve new → 0 < length (sketch_in new).elements

-- what is placed of each sound sketch with an element
abbrev pub SomeSolved : Type 0
SomeSolved = (request : Request) (s : Sketch) → IsSoundSketch s → 0 < length s.elements → (status : Status) × (text : List ℕ) × IsSolved Places request s status text

given_below : GivenByLanguage → GivenBelow
given_below language = record {
  language = language;
  run = λ by g f sound. (let found = some_run place_of next_call g place_below f (fresh by) sound in (found.merges, found.end, found.last, found.run));
  judgement = λ g sound. judgement_there place_of next_call place_below (fresh order.First) g sound;
  plan = some_plan_by;
}

solve_or_not : (r : Reply) → (r ≡ reply.Solve) ⊎ (r ≢ reply.Solve)
solve_or_not reply.Blank = inr (λ same. cc)
solve_or_not reply.Done = inr (λ same. cc)
solve_or_not (reply.Declared e) = inr (λ same. cc)
solve_or_not (reply.Constrained k) = inr (λ same. cc)
solve_or_not (reply.Refused code) = inr (λ same. cc)
solve_or_not (reply.Checked j) = inr (λ same. cc)
solve_or_not (reply.Planned p) = inr (λ same. cc)
solve_or_not (reply.NotWell j) = inr (λ same. cc)
solve_or_not reply.Solve = inl refl
solve_or_not reply.Write = inr (λ same. cc)
solve_or_not reply.End = inr (λ same. cc)

module _ (language : GivenByLanguage) (some_to_solve : SomeToSolve) (solved : SomeSolved) (request : Request) (bytes : List ℕ) where
  -- the text of a reply
  said : (s : Sketch) (r : Reply) → IsSoundSketch s → (r ≡ reply.Solve → 0 < length s.elements) → (text : List ℕ) × IsReplyText (session_keys request) s r text
  said s r sound some =
      elim (solve_or_not r) [
        | inr other ↦ (told s r, told_is_text (session_keys request) s r (told s r) other refl)
        | inl is ↦ (
            let found = solved (solve_with (session_keys request)) s sound (some is) in
            (found.1, subst (λ z. IsReplyText (session_keys request) s z found.1) (sym is) (found.0, found.2)))
      ]

  -- from a state on the lines are answered up to the end
  pub answered_lines : (rest : List (List ℕ)) (state : State) (text : List ℕ) → Stands request bytes rest state text → IsKept state
      → (all : List ℕ) × (left : List (List ℕ)) × (end : State) × Stands request bytes left end all × HasEnded EndsSession end left
  answered_lines [] state text at kept = (text, [], state, at, tt)
  answered_lines (line ∷ rest) state text at kept =
      let found = some_reply (given_below language) state kept line in
      elim (ends_or_not found.answer) [
        | inl is ↦ (text, line ∷ rest, state, at, (found.new, subst (λ r. Answers state line r found.new) is found.answers))
        | inr goes_on ↦ (
            let sound = found.kept.2.sound in
            let says = said (sketch_in found.new) found.answer sound (λ is. some_to_solve state found.new line (subst (λ r. Answers state line r found.new) is found.answers)) in
            answered_lines rest found.new (text ++ says.0)
            (stands_next request bytes line rest state found.new text says.0 found.answer at (record { answers = found.answers; sound = sound; says = says.1 }) goes_on)
            found.kept)
      ]

  pub answered_all : (all : List ℕ) × (left : List (List ℕ)) × (end : State) × Stands request bytes left end all × HasEnded EndsSession end left
  answered_all =
      let kept : IsKept (at_start request.order) = ([], refl, consistent_new (initial_clusters (graph_of empty_sketch)) refl) in
      answered_lines (lines_in bytes) (at_start request.order) [] (stands_first request bytes) kept

  pub some_session : (status : Status) × (text : List ℕ) × IsSessionAnswer request bytes status text
  some_session =
      elim (cases_lt 1048576 (length bytes)) [
        | inl long ↦ (Refused, refusal_line (record { line = 0; code = E20 }), (long, refl))
        | inr fits ↦ (
            let (all, left, end, at, over) = answered_all in
            (Done, all, (record { fits = fits; before = at.before; after = left; parts = at.parts; state = end; replied = at.replied }, over)))
      ]

abbrev in_time_at : (request : Request) (bytes all : List ℕ) (left : List (List ℕ)) (end : State) → Stands request (in_time bytes) left end all → RepliesInTime request bytes all
in_time_at request bytes all left end at = record { before = at.before; after = left; parts = at.parts; state = end; replied = at.replied }

-- where the lines in time are answered up to the end, or to the last
live_at : (request : Request) (bytes all : List ℕ) (left : List (List ℕ)) (end : State) → Stands request (in_time bytes) left end all → HasEnded EndsSession end left → (status : Status) × (text : List ℕ) × IsLiveAnswer request bytes status text
live_at request bytes all (line ∷ left) end at over = (Done, all, (in_time_at request bytes all (line ∷ left) end at, over, λ none. cc))
live_at request bytes all [] end at over =
    elim (cases_lt 4294967295 (length bytes)) [
      | inl long ↦ (Refused, all ++ late_line, (all, (in_time_at request bytes all [] end at, refl, long, refl)))
      | inr fits ↦ (Done, all, (in_time_at request bytes all [] end at, tt, λ none. fits))
    ]

-- and `live` has one
pub some_live : GivenByLanguage → SomeToSolve → SomeSolved → (request : Request) (bytes : List ℕ) → (status : Status) × (text : List ℕ) × IsLiveAnswer request bytes status text
some_live language some_to_solve solved request bytes =
    let (all, left, end, at, over) = answered_all language some_to_solve solved request (in_time bytes) in live_at request bytes all left end at over
