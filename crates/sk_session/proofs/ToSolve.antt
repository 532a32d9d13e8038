-- `solve` is answered only where there is something to solve.
use Rattle.std.proofs.Common.{◌≡◌, ◌<◌, not, ℕ, Bool, true, false, List, [], ◌∷◌, ◌++◌, Option, Some, None, length, refl, sym, subst, ◌∙◌, arith, inl, inr}
use Rattle.sk_base.specs.declared.ConId.{ConId}
use Rattle.sk_base.specs.declared.Elem.{Elem}
use Rattle.sk_base.specs.declared.Element.{Element}
use Rattle.sk_base.specs.declared.Sketch.{Sketch}
use Rattle.sk_base.proofs.Tables.{passed}
use Rattle.sk_entry.specs.declared.Entry.TheVariants as entry
use Rattle.sk_edits.specs.declared.Edit.TheVariants as edit
use Rattle.sk_edits.specs.declared.Command.{Command}
use Rattle.sk_edits.specs.declared.Command.TheVariants.{Change, Undo, Check, Plan, Solve, Write, End}
use Rattle.sk_edits.specs.declared.Edit.{Edit}
use Rattle.sk_entry.specs.Entry.{rows_of, IsEntryOf, StandsOn}
use Rattle.sk_entry.specs.declared.Entry.{Entry}
use Rattle.sk_lines.specs.declared.Code.TheVariants.{E3, E18, S5}
use Rattle.sk_lines.proofs.FirstCodes.{none_behind}
use Rattle.sk_lines.specs.ByteCodes.{byte_rows}
use Rattle.sk_lines.specs.Comments.{words_under}
use Rattle.sk_lines.specs.EndLine.{is_none_left}
use Rattle.sk_lines.specs.FirstCode.{first_code}
use Rattle.sk_lines.specs.declared.Code.{Code}
use Rattle.sk_lines.specs.declared.Version.TheVariants.{Two}
use Rattle.sk_session.specs.declared.reply.Reply.{Reply}
use Rattle.sk_session.specs.declared.reply.Reply.TheVariants as reply
use Rattle.sk_edits.specs.Commands.{command_of, edit_made}
use Rattle.sk_session.specs.SessionCodes.{command_rows, word_rows, code_in}
use Rattle.sk_session.specs.State.{State, sketch_in}
use Rattle.sk_session.specs.Replies.{Takes, Stands, Obeys, ObeysWords, Enters, ByCode, Answers, next_elem, next_con}
use Rattle.sk_session.proofs.Coding.{code_of_command}

some_left : (xs : List Element) → is_none_left xs ≡ false → 0 < length xs
some_left [] is = absurd (cc)
some_left (x ∷ xs) is = omega arith

-- a question without a code has an element to ask of
pub some_asked : (state : State) (rest : List (List ℕ)) → first_code ((not (is_none_left rest), E3) ∷ (is_none_left (sketch_in state).elements, E18) ∷ []) ≡ None → 0 < length (sketch_in state).elements
some_asked state rest clean =
    let alone = passed (not (is_none_left rest)) E3 (first_code ((is_none_left (sketch_in state).elements, E18) ∷ [])) clean in
    let some = passed (is_none_left (sketch_in state).elements) E18 None alone.1 in
    some_left (sketch_in state).elements some.0

module _ (old new : State) where
  none_stands : (made : Option Edit) (this : Reply) → (reply.Solve ≡ this → ⊥) → ¬ Stands old made this reply.Solve new
  none_stands None this other h = h
  none_stands (Some e) this other (is, accepts) = other is

  solve_obeys : (o : Option Command) (rest : List (List ℕ)) → Obeys old o rest reply.Solve new → (o ≡ Some Solve) × (new ≡ old)
  solve_obeys None rest h = absurd h
  solve_obeys (Some (Change change)) rest h = absurd (none_stands (edit_made (sketch_in old) change rest) reply.Done (λ e. cc) h)
  solve_obeys (Some Undo) rest (is, takes) = absurd (cc)
  solve_obeys (Some Check) rest (j, is, judged, closes) = absurd (cc)
  solve_obeys (Some Plan) rest (inl (p, is, plan), same) = absurd (cc)
  solve_obeys (Some Plan) rest (inr (j, is, judged, other), same) = absurd (cc)
  solve_obeys (Some Solve) rest (is, same) = (refl, same)
  solve_obeys (Some Write) rest (is, same) = absurd (cc)
  solve_obeys (Some End) rest (is, same) = absurd (cc)

  some_by_rows : (o : Option Command) (rest : List (List ℕ)) → o ≡ Some Solve → first_code (command_rows old o rest) ≡ None → 0 < length (sketch_in old).elements
  some_by_rows o rest is none = some_asked old rest (subst (λ (z : Option Command). first_code (command_rows old z rest) ≡ None) is none)

  -- a command is answered so only where there is an element
  pub obeyed_some : (o : Option Command) (rest : List (List ℕ)) (answer : Reply) → ByCode (first_code (command_rows old o rest)) old (Obeys old o rest answer new) answer new → answer ≡ reply.Solve → 0 < length (sketch_in new).elements
  obeyed_some o rest answer h is =
      told (first_code (command_rows old o rest)) refl (subst (λ (r : Reply). ByCode (first_code (command_rows old o rest)) old (Obeys old o rest r new) r new) is h)
    where
      told : (code : Option Code) → first_code (command_rows old o rest) ≡ code → ByCode code old (Obeys old o rest reply.Solve new) reply.Solve new → 0 < length (sketch_in new).elements
      told (Some code) here (not_refused, same) = absurd (cc)
      told None here obeys =
          let solves = solve_obeys o rest obeys in
          subst (λ (z : State). 0 < length (sketch_in z).elements) (sym solves.1) (some_by_rows o rest solves.0 here)

  -- an edit isn't answered so
  pub taken_otherwise : (spent : Bool) (e : Edit) (this answer : Reply) → (reply.Solve ≡ this → ⊥) → Takes spent old e this answer new → answer ≡ reply.Solve → ⊥
  taken_otherwise true e this answer other (refused, same) is = (let clash : reply.Solve ≡ reply.Refused S5 = sym is ∙ refused in cc)
  taken_otherwise false e this answer other (answer_is, accepts) is = other (sym is ∙ answer_is)

-- what lines say is told by their first words
abbrev pub EachStandsOn : Type 0
EachStandsOn = (s : Sketch) (line : List ℕ) (elem : Elem) (con : ConId) (x : Entry) → IsEntryOf Two s line elem con x → StandsOn Two line x

module _ (stands_on : EachStandsOn) (old new : State) where
  some_by_entry : (line : List ℕ) (said : Entry) → IsEntryOf Two (sketch_in old) line (next_elem old) (next_con old) said → Enters old (words_under Two line) said reply.Solve new → code_in old line ≡ None → 0 < length (sketch_in new).elements
  some_by_entry line entry.Blank says (is, same) clean = absurd (cc)
  some_by_entry line (entry.Element e) says enters clean = absurd (none_stands old new (Some (edit.Element e)) (reply.Declared e.number) (λ x. cc) enters)
  some_by_entry line (entry.Constraint c) says enters clean = absurd (none_stands old new (Some (edit.Constraint c)) (reply.Constrained c.number) (λ x. cc) enters)
  some_by_entry line (entry.Other words) says enters clean =
      let begins = (stands_on (sketch_in old) line (next_elem old) (next_con old) (entry.Other words) says).0 in
      let obeys = solve_obeys old new (command_of begins.first) begins.rest (subst (λ (ws : List (List ℕ)). ObeysWords old ws reply.Solve new) begins.words enters) in
      let none = none_behind (byte_rows line ++ rows_of Two (sketch_in old) (words_under Two line)) (word_rows old (words_under Two line)) clean in
      let some = some_by_rows old new (command_of begins.first) begins.rest obeys.0 (sym (code_of_command old (words_under Two line) begins) ∙ none) in
      subst (λ (z : State). 0 < length (sketch_in z).elements) (sym obeys.1) some

  pub solve_has_some : (line : List ℕ) → Answers old line reply.Solve new → 0 < length (sketch_in new).elements
  solve_has_some line answers = told (code_in old line) refl answers
    where
      told : (o : Option Code) → code_in old line ≡ o
          → ByCode o old ((said : Entry) × IsEntryOf Two (sketch_in old) line (next_elem old) (next_con old) said × Enters old (words_under Two line) said reply.Solve new) reply.Solve new
          → 0 < length (sketch_in new).elements
      told (Some code) here (is, same) = absurd (cc)
      told None here (said, says, enters) = some_by_entry line said says enters here
