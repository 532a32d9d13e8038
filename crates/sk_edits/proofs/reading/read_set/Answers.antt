use Rattle.std.proofs.Common.{◌≡◌, ◌∷◌, [], ℕ, List, Option, Some, is_none, refl, sym, subst, ◌∙◌}
use Rattle.std.specs.Prelude.{unwrap_or}
use Rattle.std.specs.Option.{option_map}
use Rattle.sk_base.specs.declared.ConId.{ConId}
use Rattle.sk_base.specs.declared.Constraint.{Constraint}
use Rattle.sk_base.specs.declared.Rule.{Rule}
use Rattle.sk_base.specs.declared.Sketch.{Sketch}
use Rattle.sk_edits.specs.declared.command.Change.TheVariants as change
use Rattle.sk_edits.proofs.reading.read_set.Goals as goal
use Rattle.sk_edits.specs.Commands.{from_made, change_rows, edit_made, number_of, value_rows, setting}
use Rattle.sk_entry.specs.NumberedConstraint.{constraint_of}
use Rattle.sk_lines.specs.FirstCode.{first_code}
use Rattle.sk_lines.specs.declared.Code.TheVariants.{E8, S1}

abbrev numbered : Option ℕ → ConId
numbered o = record { 0 = unwrap_or o 0 }

abbrev rule_in : Option Constraint → Option Rule
rule_in m = option_map (λ (c : Constraint). c.rule) m

-- what the line says, by its number and the constraint that has it
set_told : (s : Sketch) (number value : List ℕ) (k : ConId) (c : Constraint) → number_of number ≡ Some k.0 → constraint_of s k ≡ Some c
    → from_made (first_code (value_rows (Some c.rule) value)) (setting (Some c.rule) k value)
    ≡ from_made (first_code (change_rows s change.Set (number ∷ value ∷ []))) (edit_made s change.Set (number ∷ value ∷ []))
set_told s number value k c is found =
    let P : Option ℕ → Type 0 = λ o. from_made (first_code (value_rows (Some c.rule) value)) (setting (Some c.rule) k value)
    ≡ from_made (first_code ((is_none o, E8) ∷ (is_none (constraint_of s (numbered o)), S1) ∷ value_rows (rule_in (constraint_of s (numbered o))) value)) (setting (rule_in (constraint_of s (numbered o))) (numbered o) value) in
    let Q : Option Constraint → Type 0 = λ m. from_made (first_code (value_rows (Some c.rule) value)) (setting (Some c.rule) k value)
    ≡ from_made (first_code ((is_none m, S1) ∷ value_rows (rule_in m) value)) (setting (rule_in m) k value) in
    let here : Q (Some c) = refl in
    let there : P (Some k.0) = subst Q (sym found) here in
    subst P (sym is) there

pub returns-clause-made : goal.returns-clause-made
returns-clause-made c =
    c.set_value.ensures.made
    ∙ set_told c.args.sketch.now c.args.number.now c.args.value.now c.in_ok-number.number c.in_ok-constraint.constraint.now c.in_ok-number.ensures c.in_ok-constraint.ensures
