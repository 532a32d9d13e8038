-- A line has one reply, and after it one list of standing edits: the kept family, and how it is closed, have no part in
-- that.
use Rattle.std.proofs.Common.{◌≡◌, ◌⊎◌, inl, inr, ℕ, Bool, true, false, List, [], ◌∷◌, ◌++◌, Option, Some, None, is_some, refl, ap, sym, subst, ◌∙◌}
use Rattle.std.proofs.lemmas.List.{same_from_push}
use Rattle.sk_base.specs.declared.Elem.{Elem}
use Rattle.sk_base.specs.declared.ConId.{ConId}
use Rattle.sk_base.specs.declared.Sketch.{Sketch}
use Rattle.sk_base.specs.SoundSketch.{IsSoundSketch}
use Rattle.sk_family.specs.Clusters.{Clusters}
use Rattle.sk_lines.specs.declared.Version.TheVariants.{Two}
use Rattle.sk_lines.specs.Comments.{words_under}
use Rattle.sk_lines.specs.declared.Code.{Code}
use Rattle.sk_entry.specs.declared.Entry.{Entry}
use Rattle.sk_entry.specs.declared.Entry.TheVariants as entry
use Rattle.sk_lines.specs.ByteCodes.{byte_rows}
use Rattle.sk_entry.specs.Entry.{rows_of, IsOther, IsEntryOf}
use Rattle.sk_lines.specs.FirstCode.{first_code}
use Rattle.sk_lines.specs.Keywords.{keyword_of}
use Rattle.sk_graph.specs.SketchGraph.{graph_of}
use Rattle.sk_graph.proofs.Soundness.{graph_is_sound}
use Rattle.sk_close_by_order.specs.declared.Order.{Order}
use Rattle.sk_plan.proofs.OnePlan.{one_plan_by}
use Rattle.sk_plan.proofs.TheJudgement.{one_judgement, well_alone}
use Rattle.sk_session.specs.declared.closing.Closing.{Closing}
use Rattle.sk_edits.specs.declared.Command.{Command}
use Rattle.sk_edits.specs.declared.Command.TheVariants as command
use Rattle.sk_edits.specs.declared.Edit.{Edit}
use Rattle.sk_edits.specs.declared.Edit.TheVariants as edit
use Rattle.sk_session.specs.declared.reply.Reply.{Reply}
use Rattle.sk_session.specs.declared.reply.Reply.TheVariants as reply
use Rattle.sk_edits.specs.Commands.{command_of, edit_made}
use Rattle.sk_session.specs.SessionCodes.{command_rows, own_rows, word_rows, code_in}
use Rattle.sk_session.specs.State.{State, sketch_in, IsSameElse}
use Rattle.sk_session.specs.Replies.{Plans, Only, Stands, Obeys, ObeysWords, Enters, ByCode, Answers, next_elem, next_con}

-- a line says one thing, by the law of the language
abbrev pub OneEntry : Type 0
OneEntry = (s : Sketch) (line : List ℕ) (elem : Elem) (con : ConId) (x y : Entry) → IsEntryOf Two s line elem con x → IsEntryOf Two s line elem con y → (x ≡ y) ⊎ (IsOther Two line x × IsOther Two line y)

same_plans : (state : State) → IsSoundSketch (sketch_in state) → (one other : Reply) → Plans state one → Plans state other → one ≡ other
same_plans state sound one other first second =
    let s = sketch_in state in
    elim first [
      | inl (p, is, plan) ↦ elim second [
        | inl (q, is', plan') ↦ is ∙ ap reply.Planned (one_plan_by state.order s p q (graph_is_sound s sound) plan plan') ∙ sym is'
        | inr (j, is', judged, not_well) ↦ absurd (well_alone (graph_of s) j plan.well judged not_well)
      ]
      | inr (j, is, judged, not_well) ↦ elim second [
        | inl (q, is', plan') ↦ absurd (well_alone (graph_of s) j plan'.well judged not_well)
        | inr (k, is', judged', not_well') ↦ is ∙ ap reply.NotWell (one_judgement (graph_of s) j k judged judged') ∙ sym is'
      ]
    ]

module _ (one_entry : OneEntry) (old : State) (closing : Closing) (kept : Clusters) (sound : IsSoundSketch (sketch_in old)) where
  -- the state with another kept family, closed so
  abbrev like : State
  like = record { order = old.order; closing = closing; edits = old.edits; count = old.count; family = kept }

  abbrev AreSame : Reply → Reply → State → State → Type 0
  AreSame one other new last = (one ≡ other) × IsSameElse new last

  only_same : (this one other : Reply) (new last : State) → Only old this one new → Only like this other last → AreSame one other new last
  only_same this one other new last (is, same) (is', same') = (
    is ∙ sym is',
    record {
      order = ap (λ (s : State). s.order) same' ∙ sym (ap (λ (s : State). s.order) same);
      edits = ap (λ (s : State). s.edits) same' ∙ sym (ap (λ (s : State). s.edits) same);
      count = ap (λ (s : State). s.count) same' ∙ sym (ap (λ (s : State). s.count) same);
    },
  )

  stands_same : (made : Option Edit) (this one other : Reply) (new last : State) → Stands old made this one new → Stands like made this other last → AreSame one other new last
  stands_same None this one other new last h h' = absurd h
  stands_same (Some e) this one other new last (is, made) (is', made') = (
    is ∙ sym is',
    record { order = made'.order ∙ sym made.order; edits = made'.edits ∙ sym made.edits; count = made'.count ∙ sym made.count },
  )

  obeys_same : (o : Option Command) (rest : List (List ℕ)) (one other : Reply) (new last : State) → Obeys old o rest one new → Obeys like o rest other last → AreSame one other new last
  obeys_same None rest one other new last h h' = absurd h
  obeys_same (Some (command.Change change)) rest one other new last h h' = stands_same (edit_made (sketch_in old) change rest) reply.Done one other new last h h'
  obeys_same (Some command.Undo) rest one other new last (is, taken) (is', taken') = (
    is ∙ sym is',
    record {
      order = taken'.order ∙ sym taken.order;
      edits = (same_from_push last.edits new.edits taken'.last taken.last (sym taken'.edits ∙ taken.edits)).0;
      count = taken'.count ∙ sym taken.count;
    },
  )
  obeys_same (Some command.Check) rest one other new last (j, is, judged, closes) (k, is', judged', closes') = (
    is ∙ ap reply.Checked (one_judgement (graph_of (sketch_in old)) j k judged judged') ∙ sym is',
    record {
      order = closes'.else_same.order ∙ sym closes.else_same.order;
      edits = closes'.else_same.edits ∙ sym closes.else_same.edits;
      count = closes'.else_same.count ∙ sym closes.else_same.count;
    },
  )
  obeys_same (Some command.Plan) rest one other new last (plans, same) (plans', same') =
      let said = same_plans old sound one other plans plans' in
      (said, (only_same one one one new last (refl, same) (refl, same')).1)
  obeys_same (Some command.Solve) rest one other new last h h' = only_same reply.Solve one other new last h h'
  obeys_same (Some command.Write) rest one other new last h h' = only_same reply.Write one other new last h h'
  obeys_same (Some command.End) rest one other new last h h' = only_same reply.End one other new last h h'

  words_same : (ws : List (List ℕ)) (one other : Reply) (new last : State) → ObeysWords old ws one new → ObeysWords like ws other last → AreSame one other new last
  words_same [] one other new last h h' = absurd h
  words_same (first ∷ rest) one other new last h h' = obeys_same (command_of first) rest one other new last h h'

  -- what the words of another line say
  other_enters : (state : State) (line : List ℕ) (ws : List (List ℕ)) (said : Entry) (answer : Reply) (new : State) → IsOther Two line said → Enters state ws said answer new → ObeysWords state ws answer new
  other_enters state line ws entry.Blank answer new is h = absurd is
  other_enters state line ws (entry.Element e) answer new is h = absurd is
  other_enters state line ws (entry.Constraint c) answer new is h = absurd is
  other_enters state line ws (entry.Other words) answer new is h = h

  enters_same : (ws : List (List ℕ)) (said : Entry) (one other : Reply) (new last : State) → Enters old ws said one new → Enters like ws said other last → AreSame one other new last
  enters_same ws entry.Blank one other new last h h' = only_same reply.Blank one other new last h h'
  enters_same ws (entry.Element e) one other new last h h' = stands_same (Some (edit.Element e)) (reply.Declared e.number) one other new last h h'
  enters_same ws (entry.Constraint c) one other new last h h' = stands_same (Some (edit.Constraint c)) (reply.Constrained c.number) one other new last h h'
  enters_same ws (entry.Other words) one other new last h h' = words_same ws one other new last h h'

  -- the codes of a line don't look at the family
  command_alike : (o : Option Command) (rest : List (List ℕ)) → command_rows like o rest ≡ command_rows old o rest
  command_alike None rest = refl
  command_alike (Some (command.Change change)) rest = refl
  command_alike (Some command.Undo) rest = refl
  command_alike (Some command.Check) rest = refl
  command_alike (Some command.Plan) rest = refl
  command_alike (Some command.Solve) rest = refl
  command_alike (Some command.Write) rest = refl
  command_alike (Some command.End) rest = refl

  own_alike : (t : Bool) (first : List ℕ) (rest : List (List ℕ)) → own_rows like t first rest ≡ own_rows old t first rest
  own_alike true first rest = refl
  own_alike false first rest = command_alike (command_of first) rest

  rows_alike : (ws : List (List ℕ)) → word_rows like ws ≡ word_rows old ws
  rows_alike [] = refl
  rows_alike (first ∷ rest) = own_alike (is_some (keyword_of Two first)) first rest

  code_alike : (line : List ℕ) → code_in like line ≡ code_in old line
  code_alike line = ap (λ rows. first_code ((byte_rows line ++ rows_of Two (sketch_in old) (words_under Two line)) ++ rows)) (rows_alike (words_under Two line))

  abbrev Says : List ℕ → State → Reply → State → Type 0
  Says line state answer new = (said : Entry) × IsEntryOf Two (sketch_in state) line (next_elem state) (next_con state) said × Enters state (words_under Two line) said answer new

  by_code_same : (line : List ℕ) (code : Option Code) (one other : Reply) (new last : State) → ByCode code old (Says line old one new) one new → ByCode code like (Says line like other last) other last → AreSame one other new last
  by_code_same line (Some code) one other new last h h' = only_same (reply.Refused code) one other new last h h'
  by_code_same line None one other new last (said, is, enters) (said', is', enters') =
      elim (one_entry (sketch_in old) line (next_elem old) (next_con old) said said' is is') [
        | inl same ↦ enters_same (words_under Two line) said' one other new last (subst (λ z. Enters old (words_under Two line) z one new) same enters) enters'
        | inr (first, second) ↦ words_same (words_under Two line) one other new last (other_enters old line (words_under Two line) said one new first enters) (other_enters like line (words_under Two line) said' other last second enters')
      ]

  answers_same : (line : List ℕ) (one other : Reply) (new last : State) → Answers old line one new → Answers like line other last → AreSame one other new last
  answers_same line one other new last first second =
      by_code_same line (code_in old line) one other new last first (subst (λ code. ByCode code like (Says line like other last) other last) (code_alike line) second)

pub one_reply : OneEntry → (old other new last : State) (line : List ℕ) (one said : Reply) → IsSoundSketch (sketch_in old) → IsSameElse old other → Answers old line one new → Answers other line said last
    → (one ≡ said) × IsSameElse new last
one_reply one_entry old other new last line one said sound same first second =
    let make : Order → List Edit → ℕ → State = λ order edits count. record { order = order; closing = other.closing; edits = edits; count = count; family = other.family } in
    let is : other ≡ make old.order old.edits old.count =
    ap (λ order. make order other.edits other.count) same.order ∙ ap (λ edits. make old.order edits other.count) same.edits ∙ ap (λ count. make old.order old.edits count) same.count in
    answers_same one_entry old other.closing other.family sound line one said new last first (subst (λ z. Answers z line said last) is second)
