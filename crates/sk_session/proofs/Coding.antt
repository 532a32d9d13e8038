-- First codes of tables one behind the other, and answers by them.
use Rattle.std.proofs.Common.{◌≡◌, ℕ, Bool, true, false, List, [], ◌∷◌, ◌++◌, Option, Some, None, refl, ap, sym, subst, ◌∙◌}
use Rattle.sk_lines.specs.declared.Version.TheVariants.{Two}
use Rattle.sk_lines.specs.Comments.{words_under}
use Rattle.sk_lines.specs.declared.Code.{Code}
use Rattle.sk_lines.specs.declared.Code.TheVariants.{S5}
use Rattle.sk_lines.specs.declared.Words.{Words}
use Rattle.sk_entry.specs.declared.Entry.TheVariants as entry
use Rattle.sk_edits.specs.declared.Edit.{Edit}
use Rattle.sk_entry.specs.Entry.{rows_of, entry_code, IsEntryOf, Begins}
use Rattle.sk_entry.specs.declared.Entry.{Entry}
use Rattle.sk_lines.proofs.FirstCodes.{code_front, code_behind}
use Rattle.sk_lines.specs.ByteCodes.{byte_rows}
use Rattle.sk_lines.specs.FirstCode.{first_code}
use Rattle.sk_session.specs.declared.reply.Reply.{Reply}
use Rattle.sk_session.specs.declared.reply.Reply.TheVariants as reply
use Rattle.sk_session.specs.State.{State, sketch_in}
use Rattle.sk_edits.specs.Commands.{command_of}
use Rattle.sk_session.specs.SessionCodes.{is_spent, own_rows, word_rows, command_rows, code_in}
use Rattle.sk_session.specs.Replies.{Takes, Stands, Enters, Obeys, ObeysWords, ByCode, Answers, next_elem, next_con}

-- an edit is accepted by the last row of its table
pub takes_by_code : (rows : List (Bool × Code)) (spent : Bool) (made : Option Edit) (old : State) (e : Edit) (this said : Reply) (new : State) → first_code rows ≡ None → made ≡ Some e
    → Takes spent old e this said new → ByCode (first_code (rows ++ (spent, S5) ∷ [])) old (Stands old made this said new) said new
takes_by_code rows spent made old e this said new clean is takes =
    subst (λ code. ByCode code old (Stands old made this said new) said new) (sym (code_behind rows ((spent, S5) ∷ []) clean))
    (subst (λ m. ByCode (first_code ((spent, S5) ∷ [])) old (Stands old m this said new) said new) (sym is) (told spent takes))
  where
    told : (t : Bool) → Takes t old e this said new → ByCode (first_code ((t, S5) ∷ [])) old (Stands old (Some e) this said new) said new
    told true takes = takes
    told false takes = takes

pub by_code_as : {P Q : Type 0} (code : Option Code) (old : State) (answer : Reply) (new : State) → (P → Q) → ByCode code old P answer new → ByCode code old Q answer new
by_code_as (Some code) old answer new to h = h
by_code_as None old answer new to h = to h

-- without a code of its bytes or of an entry, the code of a line is that of its words in the session
pub code_by_words : (state : State) (line : List ℕ) → entry_code Two (sketch_in state) line ≡ None → code_in state line ≡ first_code (word_rows state (words_under Two line))
code_by_words state line clean = code_behind (byte_rows line ++ rows_of Two (sketch_in state) (words_under Two line)) (word_rows state (words_under Two line)) clean

code_of_entry : (state : State) (ws : List (List ℕ)) → Begins Two ws true → first_code (word_rows state ws) ≡ first_code ((is_spent state, S5) ∷ [])
code_of_entry state ws begins =
    ap (λ xs. first_code (word_rows state xs)) begins.words ∙ ap (λ t. first_code (own_rows state t begins.first begins.rest)) begins.keyword

pub code_of_command : (state : State) (ws : List (List ℕ)) (b : Begins Two ws false) → first_code (word_rows state ws) ≡ first_code (command_rows state (command_of b.first) b.rest)
code_of_command state ws begins =
    ap (λ xs. first_code (word_rows state xs)) begins.words ∙ ap (λ t. first_code (own_rows state t begins.first begins.rest)) begins.keyword

-- an entry without a code is accepted unless the edits are spent
pub answers_entry : (old : State) (line : List ℕ) (said : Entry) → entry_code Two (sketch_in old) line ≡ None → IsEntryOf Two (sketch_in old) line (next_elem old) (next_con old) said → Begins Two (words_under Two line) true
    → (e : Edit) (this answer : Reply) (new : State) → (Stands old (Some e) this answer new → Enters old (words_under Two line) said answer new) → Takes (is_spent old) old e this answer new → Answers old line answer new
answers_entry old line said clean is begins e this answer new enters takes =
    subst (λ code. ByCode code old ((x : Entry) × IsEntryOf Two (sketch_in old) line (next_elem old) (next_con old) x × Enters old (words_under Two line) x answer new) answer new)
    (sym (code_by_words old line clean ∙ code_of_entry old (words_under Two line) begins)) (told (is_spent old) takes)
  where
    told : (t : Bool) → Takes t old e this answer new → ByCode (first_code ((t, S5) ∷ [])) old ((x : Entry) × IsEntryOf Two (sketch_in old) line (next_elem old) (next_con old) x × Enters old (words_under Two line) x answer new) answer new
    told true takes = takes
    told false takes = (said, is, enters takes)

-- a command does what its words say
pub answers_command : (old : State) (line : List ℕ) (words : Words) → entry_code Two (sketch_in old) line ≡ None → IsEntryOf Two (sketch_in old) line (next_elem old) (next_con old) (entry.Other words) → (b : Begins Two (words_under Two line) false)
    → (answer : Reply) (new : State) → ByCode (first_code (command_rows old (command_of b.first) b.rest)) old (Obeys old (command_of b.first) b.rest answer new) answer new → Answers old line answer new
answers_command old line words clean is begins answer new obeys =
    subst (λ code. ByCode code old ((x : Entry) × IsEntryOf Two (sketch_in old) line (next_elem old) (next_con old) x × Enters old (words_under Two line) x answer new) answer new)
    (sym (code_by_words old line clean ∙ code_of_command old (words_under Two line) begins))
    (by_code_as (first_code (command_rows old (command_of begins.first) begins.rest)) old answer new
    (λ h. (entry.Other words, is, subst (λ ws. ObeysWords old ws answer new) (sym begins.words) h)) obeys)

-- a code of the bytes or of an entry is that of the line
pub answers_refused : (old : State) (line : List ℕ) (code : Code) (answer : Reply) → entry_code Two (sketch_in old) line ≡ Some code → answer ≡ reply.Refused code → Answers old line answer old
answers_refused old line code answer is answer_is =
    subst (λ o. ByCode o old ((x : Entry) × IsEntryOf Two (sketch_in old) line (next_elem old) (next_con old) x × Enters old (words_under Two line) x answer old) answer old)
    (sym (code_front (byte_rows line ++ rows_of Two (sketch_in old) (words_under Two line)) (word_rows old (words_under Two line)) code is)) (answer_is, refl)
