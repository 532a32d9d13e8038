use Rattle.std.proofs.Common.{◌≡◌, inl, refl, ap, sym, subst, ◌∙◌, List}
use Rattle.sk_base.specs.declared.Constraint.{Constraint}
use Rattle.sk_family.specs.Body.{Start}
use Rattle.sk_family.specs.Starts.{IsFree}
use Rattle.sk_edits.specs.Changes.{HasItem}
use Rattle.sk_edits.specs.Edits.{constraint_number}
use Rattle.sk_session.proofs.Owners.{free_number}
use Rattle.sk_edits.proofs.Places.{taken_back}
use Rattle.sk_session.proofs.change.add_constraint.Goals as goal

pub put-requires-clause-other : goal.put-requires-clause-other
put-requires-clause-other c x x_in same = c.requires.other x x_in (same ∙ ap constraint_number c.in_ok-copy.ensures)

pub adopt-requires-clause-free : goal.adopt-requires-clause-free
adopt-requires-clause-free c =
    subst (λ (s : Start). IsFree c.args.family.now s.number) (sym c.in_ok-origin.ensures)
    (free_number c.args.sketch.now c.requires.sound c.args.family.now c.requires.named c.requires.reached c.args.constraint.now.number c.requires.other)

pub remove-requires-clause-some : goal.remove-requires-clause-some
remove-requires-clause-some c = (c.in_ok-copy.copy, (c.in_ok-put.ensures.put c.in_ok-copy.copy).1 (inl refl), ap constraint_number c.in_ok-copy.ensures)

pub returns-in-Ok-clause-put : goal.returns-in-Ok-clause-put
returns-in-Ok-clause-put c = subst (λ (k : Constraint). HasItem k c.args.sketch.now.constraints c.put.new.items) c.in_ok-copy.ensures c.in_ok-put.ensures.put

pub returns-clause-err : goal.returns-clause-err
returns-clause-err c =
    let put = subst (λ (k : Constraint). HasItem k c.args.sketch.now.constraints c.put.new.items) c.in_ok-copy.ensures c.in_ok-put.ensures.put in
    let back : c.remove.new.items ≡ c.args.sketch.now.constraints =
    c.remove.ensures
    ∙ taken_back constraint_number c.args.constraint.now c.args.sketch.now.constraints c.put.new.items c.requires.sound.constraints_rise c.in_ok-put.ensures.rise put c.requires.other in
    ap (λ (cs : List Constraint). record { elements = c.args.sketch.now.elements; constraints = cs }) back
