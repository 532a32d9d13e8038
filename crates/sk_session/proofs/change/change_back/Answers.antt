use Rattle.std.proofs.Common.{◌≡◌, inl, inr, ap, sym, subst, ◌∙◌, refl}
use Rattle.std.specs.Prelude.{Contains}
use Rattle.sk_base.specs.declared.Constraint.{Constraint}
use Rattle.sk_base.specs.declared.Sketch.{Sketch}
use Rattle.sk_base.specs.SoundSketch.{IsSoundSketch}
use Rattle.sk_edits.specs.Changes.{with_item}
use Rattle.sk_edits.specs.Edits.{constraint_number}
use Rattle.sk_session.specs.declared.done.Done.{Done}
use Rattle.sk_session.specs.Past.{edit_of}
use Rattle.sk_session.specs.Following.{FollowsBack}
use Rattle.sk_session.proofs.Undoing.{retold, rule_back, element_back, constraint_back, owner_back, none_dropped, dropped_back, start_back, length_in, ratio_in, length_back, ratio_back, none_erased, erased_back}
use Rattle.sk_session.proofs.change.change_back.Goals as goal

pub add_constraint-requires-clause-rule : goal.add_constraint-requires-clause-rule
add_constraint-requires-clause-rule c =
    rule_back _ _ _ (retold _ _ _ _ c.in-Dropped.is c.requires.led.1)

pub add_constraint-requires-clause-other : goal.add_constraint-requires-clause-other
add_constraint-requires-clause-other c =
    none_dropped _ _ _ (retold _ _ _ _ c.in-Dropped.is c.requires.led.1)

pub replace-requires-clause-rise : goal.replace-requires-clause-rise
replace-requires-clause-rise c =
    let led = c.requires.led.1 in
    let sound : IsSoundSketch c.args.sketch.now = subst (λ (s : Sketch). IsSoundSketch s) (sym led.is) led.can.stays_sound in sound.constraints_rise

pub put-requires-clause-other : goal.put-requires-clause-other
put-requires-clause-other c =
    none_erased _ _ _ (retold _ _ _ _ c.in-Erased.is c.requires.led.1)

pub returns-in-Element-clause-ok : goal.returns-in-Element-clause-ok
returns-in-Element-clause-ok c before led = (
  element_back _ _ _ (retold _ _ _ _ c.in-Element.is led) _ c.remove.ensures,
  subst (λ (d : Done). FollowsBack (edit_of d) before c.args.family.now c.args.family.now) (sym c.in-Element.is) refl,
)

pub returns-in_ok-remove_constraint-in-Constraint-clause-ok : goal.returns-in_ok-remove_constraint-in-Constraint-clause-ok
returns-in_ok-remove_constraint-in-Constraint-clause-ok c before led =
    let told = retold _ _ _ _ c.in-Constraint.is led in (
      c.in_ok-remove_constraint-in-Constraint.ensures.ok ∙ constraint_back _ _ _ told,
      subst (λ (d : Done). FollowsBack (edit_of d) before c.args.family.now c.remove_constraint.new.family) (sym c.in-Constraint.is)
          (owner_back _ _ _ told _ _ c.in_ok-remove_constraint-in-Constraint.ensures.dissolves),
    )

pub returns-in_ok-add_constraint-in-Dropped-clause-ok : goal.returns-in_ok-add_constraint-in-Dropped-clause-ok
returns-in_ok-add_constraint-in-Dropped-clause-ok c before led =
    let told = retold _ _ _ _ c.in-Dropped.is led in
    let ok = c.in_ok-add_constraint-in-Dropped.ensures in (
      dropped_back _ _ _ told _ ok.elements ok.rise ok.put,
      subst (λ (d : Done). FollowsBack (edit_of d) before c.args.family.now c.add_constraint.new.family) (sym c.in-Dropped.is) (start_back _ _ _ told _ _ ok.starts),
    )

pub returns-in_ok-put-in-Erased-clause-ok : goal.returns-in_ok-put-in-Erased-clause-ok
returns-in_ok-put-in-Erased-clause-ok c before led =
    let ok = c.in_ok-put-in-Erased.ensures in (
      erased_back _ _ _ (retold _ _ _ _ c.in-Erased.is led) _ ok.rise ok.put,
      subst (λ (d : Done). FollowsBack (edit_of d) before c.args.family.now c.args.family.now) (sym c.in-Erased.is) refl,
    )

pub replace-requires-clause-some : goal.replace-requires-clause-some
replace-requires-clause-some c =
    let found : (x : Constraint) × Contains c.args.sketch.now.constraints x × (x.number.0 ≡ c.in-Length.constraint.number.0) = elim c.in-Length.is [
      | inl (len, is) ↦ length_in _ _ len _ (retold _ _ _ _ is c.requires.led.1)
      | inr (ratio, is) ↦ ratio_in _ _ ratio _ (retold _ _ _ _ is c.requires.led.1)
    ] in
    (found.0, found.1, found.2 ∙ sym (ap constraint_number c.in_ok-constraint-in-Length.ensures))

pub returns-in_ok-constraint-in-Length-clause-ok : goal.returns-in_ok-constraint-in-Length-clause-ok
returns-in_ok-constraint-in-Length-clause-ok c before led =
    let new = c.replace.ensures ∙ ap (λ (x : Constraint). with_item constraint_number x c.args.sketch.now.constraints) c.in_ok-constraint-in-Length.ensures in
    elim c.in-Length.is [
      | inl (len, is) ↦ (
        length_back _ _ len _ (retold _ _ _ _ is led) _ new,
        subst (λ (d : Done). FollowsBack (edit_of d) before c.args.family.now c.args.family.now) (sym is) refl,
      )
      | inr (ratio, is) ↦ (
        ratio_back _ _ ratio _ (retold _ _ _ _ is led) _ new,
        subst (λ (d : Done). FollowsBack (edit_of d) before c.args.family.now c.args.family.now) (sym is) refl,
      )
    ]
