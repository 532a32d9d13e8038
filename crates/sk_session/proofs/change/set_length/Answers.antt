use Rattle.std.proofs.Common.{◌≡◌, ap, refl, ◌∙◌, List}
use Rattle.std.specs.Prelude.{map}
use Rattle.sk_base.specs.declared.Constraint.{Constraint}
use Rattle.sk_base.specs.declared.Rule.{Rule}
use Rattle.sk_edits.specs.Changes.{with_item}
use Rattle.sk_edits.specs.Edits.{changed, constraint_number, with_length}
use Rattle.sk_edits.proofs.Setting.{set_one}
use Rattle.sk_session.proofs.change.set_length.Goals as goal

pub replace-requires-clause-some : goal.replace-requires-clause-some
replace-requires-clause-some c = (c.args.old.now, c.requires.there, refl)

pub returns-clause-ok : goal.returns-clause-ok
returns-clause-ok c =
    let cs = c.args.sketch.now.constraints in
    let old = c.args.old.now in
    let rule_is = c.with_length-rule.ensures ∙ ap (λ (x : Constraint). with_length c.args.len x.rule) c.in_ok-copy_constraint.ensures in
    let made : c.replace.new.items ≡ map (changed old.number (with_length c.args.len)) cs =
    c.replace.ensures
    ∙ ap (λ (r : Rule). with_item constraint_number (record { number = old.number; rule = r }) cs) rule_is
    ∙ set_one old.number (with_length c.args.len) old cs c.requires.sound.constraints_rise c.requires.there refl in
    ap (λ (xs : List Constraint). record { elements = c.args.sketch.now.elements; constraints = xs }) made
