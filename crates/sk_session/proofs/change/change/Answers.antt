use Rattle.std.proofs.Common.{◌≡◌, ◌<◌, ◌++◌, ◌∷◌, [], ap, sym, subst, ◌∙◌, List, arith}
use Rattle.sk_base.specs.declared.Element.{Element}
use Rattle.sk_base.specs.declared.Constraint.{Constraint}
use Rattle.sk_edits.specs.declared.Edit.TheVariants as edit
use Rattle.sk_edits.specs.Edits.{applied, element_number, constraint_number}
use Rattle.sk_edits.specs.Making.{IsPossible}
use Rattle.sk_edits.proofs.Places.{put_last}
use Rattle.sk_family.proofs.Outcomes.{both_on_ok}
use Rattle.sk_session.specs.declared.done.Done.{Done}
use Rattle.sk_session.specs.Past.{edit_of}
use Rattle.sk_session.proofs.change.change.Goals as goal

pub put-requires-clause-other : goal.put-requires-clause-other
put-requires-clause-other c x x_in same =
    let possible : IsPossible (edit.Element c.in-Element.element) c.args.sketch.now = subst (λ (d : Done). IsPossible (edit_of d) c.args.sketch.now) c.in-Element.is c.requires.can.possible in
    let less : x.number.0 < c.in-Element.element.number.0 = possible x x_in in
    absurd (omega arith)

pub add_constraint-requires-clause-other : goal.add_constraint-requires-clause-other
add_constraint-requires-clause-other c x x_in same =
    let possible : IsPossible (edit.Constraint c.in-Constraint.constraint) c.args.sketch.now = subst (λ (d : Done). IsPossible (edit_of d) c.args.sketch.now) c.in-Constraint.is c.requires.can.possible in
    let less : x.number.0 < c.in-Constraint.constraint.number.0 = possible.1 x x_in in
    absurd (omega arith)

pub returns-in-Element-clause-ok : goal.returns-in-Element-clause-ok
returns-in-Element-clause-ok c =
    let s = c.args.sketch.now in
    let e = c.in-Element.element in
    let possible : IsPossible (edit.Element e) s = subst (λ (d : Done). IsPossible (edit_of d) s) c.in-Element.is c.requires.can.possible in
    both_on_ok c.put.result c.put.ensures.rise c.put.ensures.put (λ rise put.
    (let made : c.put.new.items ≡ s.elements ++ e ∷ [] = put_last element_number e s.elements c.put.new.items c.requires.can.sound.elements_rise rise put possible in
    ap (λ (xs : List Element). record { elements = xs; constraints = s.constraints }) made ∙ ap (λ (d : Done). applied (edit_of d) s) (sym c.in-Element.is)))

pub returns-in-Constraint-clause-ok : goal.returns-in-Constraint-clause-ok
returns-in-Constraint-clause-ok c =
    let s = c.args.sketch.now in
    let k = c.in-Constraint.constraint in
    let t = c.add_constraint.new.sketch in
    let possible : IsPossible (edit.Constraint k) s = subst (λ (d : Done). IsPossible (edit_of d) s) c.in-Constraint.is c.requires.can.possible in
    both_on_ok c.add_constraint.result c.add_constraint.ensures.rise c.add_constraint.ensures.put (λ rise put.
    (let made : t.constraints ≡ s.constraints ++ k ∷ [] = put_last constraint_number k s.constraints t.constraints c.requires.can.sound.constraints_rise rise put possible.1 in
    ap (λ (xs : List Element). record { elements = xs; constraints = t.constraints }) c.add_constraint.ensures.elements
    ∙ ap (λ (xs : List Constraint). record { elements = s.elements; constraints = xs }) made
    ∙ ap (λ (d : Done). applied (edit_of d) s) (sym c.in-Constraint.is)))
