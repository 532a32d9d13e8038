-- What the reply to a question tells of the sketch after the line; and no line changes the order of merges.
use Rattle.std.proofs.Common.{◌≡◌, ◌≢◌, ◌<◌, inl, inr, ℕ, Bool, false, List, ◌∷◌, ◌++◌, Option, Some, None, is_some, length, refl, ap, sym, subst, ◌∙◌}
use Rattle.sk_base.specs.declared.ConId.{ConId}
use Rattle.sk_base.specs.declared.Elem.{Elem}
use Rattle.sk_base.specs.declared.Sketch.{Sketch}
use Rattle.sk_graph.specs.SketchGraph.{graph_of}
use Rattle.sk_lines.specs.declared.Version.TheVariants.{Two}
use Rattle.sk_lines.specs.Comments.{words_under}
use Rattle.sk_lines.specs.declared.Code.{Code}
use Rattle.sk_entry.specs.declared.Entry.{Entry}
use Rattle.sk_entry.specs.declared.Entry.TheVariants as entry
use Rattle.sk_lines.specs.ByteCodes.{byte_rows}
use Rattle.sk_entry.specs.Entry.{rows_of, IsEntryOf}
use Rattle.sk_lines.specs.FirstCode.{first_code}
use Rattle.sk_lines.specs.Keywords.{keyword_of}
use Rattle.sk_lines.specs.declared.Words.{Words}
use Rattle.sk_plan.specs.Judged.{IsTheJudgement}
use Rattle.sk_plan.specs.PlanBy.{IsPlanBy}
use Rattle.sk_verdict.specs.declared.Verdict.TheVariants.{Well}
use Rattle.sk_close_by_order.specs.declared.Order.{Order}
use Rattle.sk_edits.specs.declared.Command.{Command}
use Rattle.sk_edits.specs.declared.Command.TheVariants.{Change, Undo, Check, Plan, Solve, Write, End}
use Rattle.sk_edits.specs.declared.Edit.{Edit}
use Rattle.sk_edits.specs.declared.Edit.TheVariants as edit
use Rattle.sk_session.specs.declared.reply.Reply.{Reply}
use Rattle.sk_session.specs.declared.reply.Reply.TheVariants as reply
use Rattle.sk_edits.specs.Commands.{command_of, edit_made}
use Rattle.sk_session.specs.SessionCodes.{command_rows, own_rows, word_rows, code_in}
use Rattle.sk_edits.specs.Edits.{sketch_of}
use Rattle.sk_session.specs.State.{State, sketch_in}
use Rattle.sk_session.specs.Replies.{Only, Stands, Obeys, ObeysWords, Enters, ByCode, Answers, next_elem, next_con}
use Rattle.sk_lines.proofs.FirstCodes.{none_behind}
use Rattle.sk_session.proofs.ToSolve.{some_asked}

-- a line that says neither an element nor a constraint, and isn't blank, begins with another word than those lines do
abbrev pub OtherBegins : Type 0
OtherBegins = (s : Sketch) (line : List ℕ) (elem : Elem) (con : ConId) (words : Words) → IsEntryOf Two s line elem con (entry.Other words)
    → (first : List ℕ) × (rest : List (List ℕ)) × (words_under Two line ≡ first ∷ rest) × (is_some (keyword_of Two first) ≡ false)

-- what a reply tells of a sketch
abbrev pub TellsOf : Order → Sketch → Reply → Type 0
TellsOf order s (reply.Checked j) = (0 < length s.elements) × IsTheJudgement (graph_of s) j
TellsOf order s (reply.Planned p) = (0 < length s.elements) × IsPlanBy order s p
TellsOf order s (reply.NotWell j) = (0 < length s.elements) × IsTheJudgement (graph_of s) j × (j.verdict ≢ Well)
TellsOf order s reply.Solve = 0 < length s.elements
TellsOf order s r = Unit {0}

module _ (begins : OtherBegins) (old new : State) where
  abbrev Told : Reply → Type 0
  Told r = (new.order ≡ old.order) × TellsOf old.order (sketch_in new) r

  only_told : (this r : Reply) → TellsOf old.order (sketch_in old) this → Only old this r new → Told r
  only_told this r tells (is, same) = (
    ap (λ (z : State). z.order) same,
    subst (λ (z : Reply). TellsOf old.order (sketch_in new) z) (sym is) (subst (λ (z : State). TellsOf old.order (sketch_in z) this) (sym same) tells),
  )

  stands_told : (made : Option Edit) (this r : Reply) → TellsOf old.order (sketch_in new) this → Stands old made this r new → Told r
  stands_told None this r tells h = absurd h
  stands_told (Some e) this r tells (is, accepts) = (accepts.order, subst (λ (z : Reply). TellsOf old.order (sketch_in new) z) (sym is) tells)

  obeys_told : (o : Option Command) (rest : List (List ℕ)) (r : Reply) → first_code (command_rows old o rest) ≡ None → Obeys old o rest r new → Told r
  obeys_told None rest r clean h = absurd h
  obeys_told (Some (Change change)) rest r clean h = stands_told (edit_made (sketch_in old) change rest) reply.Done r tt h
  obeys_told (Some Undo) rest r clean (is, takes) = (takes.order, subst (λ (z : Reply). TellsOf old.order (sketch_in new) z) (sym is) tt)
  obeys_told (Some Check) rest r clean (j, is, judged, closes) = (
    closes.else_same.order,
    subst (λ (z : Reply). TellsOf old.order (sketch_in new) z) (sym is)
        (subst (λ (edits : List Edit). TellsOf old.order (sketch_of edits) (reply.Checked j)) (sym closes.else_same.edits) (some_asked old rest clean, judged)),
  )
  obeys_told (Some Plan) rest r clean (inl (p, is, plan), same) = only_told (reply.Planned p) r (some_asked old rest clean, plan) (is, same)
  obeys_told (Some Plan) rest r clean (inr (j, is, judged, other), same) = only_told (reply.NotWell j) r (some_asked old rest clean, judged, other) (is, same)
  obeys_told (Some Solve) rest r clean h = only_told reply.Solve r (some_asked old rest clean) h
  obeys_told (Some Write) rest r clean h = only_told reply.Write r tt h
  obeys_told (Some End) rest r clean h = only_told reply.End r tt h

  enters_told : (line : List ℕ) (said : Entry) → IsEntryOf Two (sketch_in old) line (next_elem old) (next_con old) said → code_in old line ≡ None → (r : Reply) → Enters old (words_under Two line) said r new → Told r
  enters_told line entry.Blank says clean r h = only_told reply.Blank r tt h
  enters_told line (entry.Element e) says clean r h = stands_told (Some (edit.Element e)) (reply.Declared e.number) r tt h
  enters_told line (entry.Constraint c) says clean r h = stands_told (Some (edit.Constraint c)) (reply.Constrained c.number) r tt h
  enters_told line (entry.Other words) says clean r h =
      let (first, rest, words_are, keyword) = begins (sketch_in old) line (next_elem old) (next_con old) words says in
      let obeys : Obeys old (command_of first) rest r new = subst (λ (ws : List (List ℕ)). ObeysWords old ws r new) words_are h in
      let rows : first_code (word_rows old (words_under Two line)) ≡ first_code (command_rows old (command_of first) rest) =
      ap (λ (ws : List (List ℕ)). first_code (word_rows old ws)) words_are ∙ ap (λ (t : Bool). first_code (own_rows old t first rest)) keyword in
      obeys_told (command_of first) rest r (sym rows ∙ none_behind (byte_rows line ++ rows_of Two (sketch_in old) (words_under Two line)) (word_rows old (words_under Two line)) clean) obeys

  -- the order stays, and what a question is answered is told of the sketch after the line, which has an element
  pub answers_told : (line : List ℕ) (r : Reply) → Answers old line r new → (new.order ≡ old.order) × TellsOf old.order (sketch_in new) r
  answers_told line r answers = told (code_in old line) refl answers
    where
      told : (o : Option Code) → code_in old line ≡ o
          → ByCode o old ((said : Entry) × IsEntryOf Two (sketch_in old) line (next_elem old) (next_con old) said × Enters old (words_under Two line) said r new) r new → Told r
      told (Some code) here h = only_told (reply.Refused code) r tt h
      told None here (said, says, enters) = enters_told line said says here r enters
