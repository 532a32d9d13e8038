-- Only lines with a code are refused.
use Rattle.std.proofs.Common.{◌≡◌, ◌≢◌, inl, inr, ℕ, List, [], ◌∷◌, Option, Some, None, ap, sym, ◌∙◌}
use Rattle.std.specs.Prelude.{◌↔◌}
use Rattle.sk_entry.specs.declared.Entry.TheVariants as entry
use Rattle.sk_edits.specs.declared.Command.{Command}
use Rattle.sk_edits.specs.declared.Command.TheVariants.{Change, Undo, Check, Plan, Solve, Write, End}
use Rattle.sk_edits.specs.declared.Edit.{Edit}
use Rattle.sk_entry.specs.Entry.{IsEntryOf}
use Rattle.sk_entry.specs.declared.Entry.{Entry}
use Rattle.sk_lines.specs.Comments.{words_under}
use Rattle.sk_lines.specs.declared.Code.{Code}
use Rattle.sk_lines.specs.declared.Version.TheVariants.{Two}
use Rattle.sk_session.specs.declared.reply.Reply.{Reply}
use Rattle.sk_session.specs.declared.reply.Reply.TheVariants as reply
use Rattle.sk_edits.specs.Commands.{command_of, edit_made}
use Rattle.sk_session.specs.SessionCodes.{code_in}
use Rattle.sk_session.specs.State.{State, sketch_in}
use Rattle.sk_session.specs.Replies.{Stands, Obeys, Enters, ByCode, Answers, next_elem, next_con}

module _ (old : State) (answer : Reply) (new : State) (code : Code) (refused : answer ≡ reply.Refused code) where
  none_stands : (made : Option Edit) (this : Reply) → this ≢ reply.Refused code → ¬ Stands old made this answer new
  none_stands None this other h = h
  none_stands (Some e) this other (is, accepts) = other (sym is ∙ refused)

  none_obeys : (o : Option Command) (rest : List (List ℕ)) → ¬ Obeys old o rest answer new
  none_obeys None rest h = h
  none_obeys (Some (Change change)) rest h = none_stands (edit_made (sketch_in old) change rest) reply.Done (λ e. cc) h
  none_obeys (Some Undo) rest (is, takes) = (let never = sym is ∙ refused in absurd (cc))
  none_obeys (Some Check) rest (j, is, judged, closes) = (let never = sym is ∙ refused in absurd (cc))
  none_obeys (Some Plan) rest (inl (p, is, plan), same) = (let never = sym is ∙ refused in absurd (cc))
  none_obeys (Some Plan) rest (inr (j, is, judged, other), same) = (let never = sym is ∙ refused in absurd (cc))
  none_obeys (Some Solve) rest (is, same) = (let never = sym is ∙ refused in absurd (cc))
  none_obeys (Some Write) rest (is, same) = (let never = sym is ∙ refused in absurd (cc))
  none_obeys (Some End) rest (is, same) = (let never = sym is ∙ refused in absurd (cc))

  none_enters : (words : List (List ℕ)) (said : Entry) → ¬ Enters old words said answer new
  none_enters words entry.Blank (is, same) = (let never = sym is ∙ refused in absurd (cc))
  none_enters words (entry.Element e) h = none_stands (Some _) (reply.Declared e.number) (λ x. cc) h
  none_enters words (entry.Constraint c) h = none_stands (Some _) (reply.Constrained c.number) (λ x. cc) h
  none_enters [] (entry.Other other) h = h
  none_enters (first ∷ rest) (entry.Other other) h = none_obeys (command_of first) rest h

pub refused_exactly : (old new : State) (line : List ℕ) (answer : Reply) (code : Code) → Answers old line answer new → (answer ≡ reply.Refused code) ↔ (code_in old line ≡ Some code)
refused_exactly old new line answer code answers = told (code_in old line) answers
  where
    told : (o : Option Code) → ByCode o old ((x : Entry) × IsEntryOf Two (sketch_in old) line (next_elem old) (next_con old) x × Enters old (words_under Two line) x answer new) answer new → (answer ≡ reply.Refused code) ↔ (o ≡ Some code)
    told (Some d) (is, same) = ((λ h. (let both : reply.Refused d ≡ reply.Refused code = sym is ∙ h in let equal : d ≡ code = cc in ap Some equal)), (λ h. (let equal : d ≡ code = cc in is ∙ ap reply.Refused equal)))
    told None (said, is, enters) = ((λ h. absurd (none_enters old answer new code h (words_under Two line) said enters)), (λ h. absurd (cc)))
