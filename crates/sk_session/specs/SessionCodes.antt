-- The codes of a session's lines, in order.
use Rattle.std.specs.Prelude.{ℕ, Bool, true, false, nat_le, not, List, [], ◌∷◌, ◌++◌, Option, Some, None, is_some}
use Rattle.sk_lines.specs.declared.Version.TheVariants.{Two}
use Rattle.sk_lines.specs.Comments.{words_under}
use Rattle.sk_lines.specs.declared.Code.{Code}
use Rattle.sk_lines.specs.declared.Code.TheVariants.{E2, E3, E18, S3, S5}
use Rattle.sk_lines.specs.ByteCodes.{byte_rows}
use Rattle.sk_lines.specs.EndLine.{is_none_left}
use Rattle.sk_entry.specs.Entry.{rows_of}
use Rattle.sk_lines.specs.FirstCode.{first_code}
use Rattle.sk_lines.specs.Keywords.{keyword_of}
use Rattle.sk_edits.specs.declared.Command.{Command}
use Rattle.sk_edits.specs.declared.Command.TheVariants.{Change, Undo, End}
use Rattle.sk_edits.specs.Commands.{command_of, change_rows}
use Rattle.sk_session.specs.State.{State, sketch_in}

-- 1,000,000 edits and undos were accepted
abbrev pub is_spent : State → Bool
is_spent state = nat_le 1000000 state.count

-- the codes of a line, by its command and the words behind
abbrev pub command_rows : State → Option Command → List (List ℕ) → List (Bool × Code)
command_rows state None rest = (true, E2) ∷ []
command_rows state (Some (Change change)) rest = change_rows (sketch_in state) change rest ++ (is_spent state, S5) ∷ []
command_rows state (Some Undo) rest = (not (is_none_left rest), E3) ∷ (is_none_left state.edits, S3) ∷ (is_spent state, S5) ∷ []
command_rows state (Some End) rest = (not (is_none_left rest), E3) ∷ []
command_rows state (Some query) rest = (not (is_none_left rest), E3) ∷ (is_none_left (sketch_in state).elements, E18) ∷ []

-- the codes of a line behind those of its bytes and of an entry, by whether it is an entry
abbrev pub own_rows : State → Bool → List ℕ → List (List ℕ) → List (Bool × Code)
own_rows state true first rest = (is_spent state, S5) ∷ []
own_rows state false first rest = command_rows state (command_of first) rest

abbrev pub word_rows : State → List (List ℕ) → List (Bool × Code)
word_rows state [] = []
word_rows state (first ∷ rest) = own_rows state (is_some (keyword_of Two first)) first rest

-- the code of a line
abbrev pub code_in : State → List ℕ → Option Code
code_in state line = first_code ((byte_rows line ++ rows_of Two (sketch_in state) (words_under Two line)) ++ word_rows state (words_under Two line))
