use Rattle.std.proofs.Common.{◌≡◌, ◌<◌, List, [], ◌∷◌, ◌++◌, get_or, refl, sym, subst, ◌∙◌}
use Rattle.sk_base.specs.declared.Sketch.{Sketch}
use Rattle.sk_edits.specs.declared.Edit.{Edit}
use Rattle.sk_edits.specs.Edits.{applied, sketch_of}
use Rattle.sk_edits.specs.Making.{CanMake}
use Rattle.sk_session.specs.declared.done.Done.{Done}
use Rattle.sk_session.specs.Following.{Follows}
use Rattle.sk_session.specs.Past.{edit_of, edits_of, Stood}
use Rattle.sk_session.specs.Standing.{Gives, element_after, constraint_after}
use Rattle.sk_session.specs.State.{State}
use Rattle.sk_session.proofs.Consistency.{consistent_made, last_is, others_left}
use Rattle.sk_session.proofs.session.Session.make.Goals as goal

pub invariant_of-self-in-Ok : goal.invariant_of-self-in-Ok
invariant_of-self-in-Ok c =
    let items = c.self.inside.done in
    let d = c.in_ok-of.field-0 in
    let x = c.index-as_slice-place.result in
    let pushed : c.push.new.self ≡ items ++ d ∷ [] = c.in_ok-push.ensures.ok in
    let last : x ≡ d = last_is items c.push.new.self c.len-place.result d x c.len-place.ensures pushed
    (subst (λ (xs : List Done). x ≡ get_or xs c.len-place.result x) c.as_slice.ensures c.index-as_slice-place.is) in
    let edit_is : c.args.edit ≡ edit_of d = sym c.in_ok-of.ensures.edit in
    let can = subst (λ (e : Edit). CanMake e (sketch_of (edits_of items))) edit_is (subst (λ (s : State). CanMake c.args.edit (sketch_of s.edits)) (sym c.self.view_is) c.requires.can) in
    let given = subst (λ (e : Edit). Gives e (edits_of items)) edit_is (subst (λ (s : State). Gives c.args.edit s.edits) (sym c.self.view_is) c.requires.given) in
    let room = subst (λ (s : State). s.count < 1000000) (sym c.self.view_is) c.requires.room in
    let stood = subst (λ (s : Sketch). Stood d s) c.sketch.ensures c.in_ok-of.ensures.stood in
    let ok = subst (λ (y : Done). c.change.new.self ≡ applied (edit_of y) c.self.inside.reduced) last c.in-Ok.ensures.ok in
    let follows = subst (λ (y : Done). Follows (edit_of y) c.self.inside.reduced c.self.inside.family c.change.new.family) last c.in-Ok.ensures.follows in
    let elem = subst (λ (y : Done). c.element_after-self-inside.result ≡ element_after (edit_of y) c.self.inside.next_elem) last c.element_after-self-inside.ensures in
    let con = subst (λ (y : Done). c.constraint_after-self-inside.result ≡ constraint_after (edit_of y) c.self.inside.next_con) last c.constraint_after-self-inside.ensures in
    rw (pushed, elem, con)
    (consistent_made items c.self.inside.reduced c.change.new.self c.self.inside.next_elem c.self.inside.next_con c.self.inside.count c.self.inside.family c.change.new.family
    c.self.invariant room c.in-Ok.ensures.family_sound c.in-Ok.ensures.count d can given stood ok follows)

pub invariant_of-self-in-Err : goal.invariant_of-self-in-Err
invariant_of-self-in-Err c =
    let left = c.remove.ensures.rest ∙ others_left c.self.inside.done c.push.new.self c.len-place.result c.in_ok-of.field-0 c.len-place.ensures c.in_ok-push.ensures.ok in
    rw (left, c.in-Err.ensures.err, c.in-Err.ensures.family_err) c.self.invariant

pub returns-in-Err-clause-err : goal.returns-in-Err-clause-err
returns-in-Err-clause-err c =
    let left = c.remove.ensures.rest ∙ others_left c.self.inside.done c.push.new.self c.len-place.result c.in_ok-of.field-0 c.len-place.ensures c.in_ok-push.ensures.ok in
    rw (← c.self.view_is, left, c.in-Err.ensures.family_err) refl
