-- The commands of a session, and the changes that their lines say, with their codes in order.
use Rattle.std.specs.Prelude.{ℕ, Bool, true, not, List, [], ◌∷◌, Option, Some, None, Result, Ok, Err, is_none, unwrap_or, codes, bytes_eq, if◌then◌else◌}
use Rattle.std.specs.List.{list_any}
use Rattle.std.specs.Option.{option_map}
use Rattle.sk_base.specs.declared.Elem.{Elem}
use Rattle.sk_base.specs.declared.ConId.{ConId}
use Rattle.sk_base.specs.declared.Constraint.{Constraint}
use Rattle.sk_base.specs.declared.Rule.{Rule}
use Rattle.sk_base.specs.declared.Rule.TheVariants as rule
use Rattle.sk_base.specs.declared.Sketch.{Sketch}
use Rattle.sk_base.specs.Labels.{is_name}
use Rattle.sk_lines.specs.declared.Code.{Code}
use Rattle.sk_lines.specs.declared.Code.TheVariants.{E3, E4, E6, E8, E9, S1, S2, S4}
use Rattle.sk_lines.specs.ClusterWords.{plain_number}
use Rattle.sk_lines.specs.Quantities.{is_zero, length_of, ratio_of, um, ratio}
use Rattle.sk_entry.specs.Named.{element_named, number_named}
use Rattle.sk_entry.specs.NumberedConstraint.{constraint_of}
use Rattle.sk_base.specs.Numbering.{is_elem}
use Rattle.sk_graph.specs.Naming.{named_by}
use Rattle.sk_edits.specs.declared.command.Command.{Command}
use Rattle.sk_edits.specs.declared.command.Command.TheVariants.{Change, Undo, Check, Plan, Solve, Write, End}
use Rattle.sk_edits.specs.declared.command.Change.{Change as Changing}
use Rattle.sk_edits.specs.declared.command.Change.TheVariants.{Drop, Set, Erase}
use Rattle.sk_edits.specs.declared.edit.Edit.{Edit}
use Rattle.sk_edits.specs.declared.edit.Edit.TheVariants as edit

-- the command that a word is
abbrev pub command_of : List ℕ → Option Command
command_of word =
    if bytes_eq word (codes "drop") then Some (Change Drop) else
    if bytes_eq word (codes "set") then Some (Change Set) else
    if bytes_eq word (codes "erase") then Some (Change Erase) else
    if bytes_eq word (codes "undo") then Some Undo else
    if bytes_eq word (codes "check") then Some Check else
    if bytes_eq word (codes "plan") then Some Plan else
    if bytes_eq word (codes "solve") then Some Solve else
    if bytes_eq word (codes "write") then Some Write else
    if bytes_eq word (codes "end") then Some End else None

-- a number is one to seven digits, the first of them not 0
abbrev pub number_of : List ℕ → Option ℕ
number_of word = plain_number 7 word

abbrev pub id_of : List ℕ → ConId
id_of word = record { 0 = unwrap_or (number_of word) 0 }

-- the rule of the constraint of a number
abbrev pub rule_with : Sketch → ConId → Option Rule
rule_with s k = option_map (λ (c : Constraint). c.rule) (constraint_of s k)

-- whether a constraint names the element
abbrev pub is_used : Sketch → Elem → Bool
is_used s x = list_any (λ (c : Constraint). is_elem (named_by c.rule) x) s.constraints

-- the codes of a new value, by the rule that gets it
abbrev pub value_rows : Option Rule → List ℕ → List (Bool × Code)
value_rows (Some (rule.Distance u v len)) word = (is_none (length_of word), E8) ∷ (is_zero (length_of word), E9) ∷ []
value_rows (Some (rule.Angle l m old)) word = (is_none (ratio_of word), E8) ∷ (is_zero (option_map (λ parts. parts.0) (ratio_of word)), E9) ∷ []
value_rows _ word = (true, S4) ∷ []

-- the codes of a change, by the words behind the first
abbrev pub change_rows : Sketch → Changing → List (List ℕ) → List (Bool × Code)
change_rows s Drop (number ∷ []) = (is_none (number_of number), E8) ∷ (is_none (constraint_of s (id_of number)), S1) ∷ []
change_rows s Set (number ∷ value ∷ []) = (is_none (number_of number), E8) ∷ (is_none (constraint_of s (id_of number)), S1) ∷ value_rows (rule_with s (id_of number)) value
change_rows s Erase (name ∷ []) = (not (is_name name), E4) ∷ (is_none (element_named s name), E6) ∷ (is_used s (number_named s name), S2) ∷ []
change_rows s _ _ = (true, E3) ∷ []

-- the edit of a change without a code
abbrev pub setting : Option Rule → ConId → List ℕ → Option Edit
setting (Some (rule.Distance u v len)) k word = Some (edit.Length k (um word))
setting (Some (rule.Angle l m old)) k word = Some (edit.Turned k (ratio word))
setting _ k word = None

abbrev pub edit_made : Sketch → Changing → List (List ℕ) → Option Edit
edit_made s Drop (number ∷ []) = Some (edit.Dropped (id_of number))
edit_made s Set (number ∷ value ∷ []) = setting (rule_with s (id_of number)) (id_of number) value
edit_made s Erase (name ∷ []) = Some (edit.Erased (number_named s name))
edit_made s _ _ = None

-- the code if there is one, else what was made
abbrev pub from_made : Option Code → Option Edit → Result Edit Code
from_made (Some code) made = Err code
from_made None (Some e) = Ok e
from_made None None = Err E3
