use Rattle.std.proofs.Common.{◌∙◌, inl, inr, sym}
use Rattle.sk_base.specs.declared.Elem.{Elem}
use Rattle.sk_triangles.proofs.Fronts.{front_all, front_more}
use Rattle.sk_close_any_order.proofs.growth.Growth.add_all.Goals as goal

pub loop-elem-preserved : goal.loop-elem-preserved
loop-elem-preserved c = record {
  names = c.in_ok-add.ensures.names ∙ c.loop-elem.invariant.names;
  marks = λ e.
      let d : Elem = record { 0 = 0 } in
      let more = front_more c.args.elements.now c.loop-elem.elem-index d c.loop-elem-test.true e in
      let one = c.in_ok-add.ensures.marks e in
      let so_far = c.loop-elem.invariant.marks e in (
        (λ h. elim (one.0 h) [
          | inl was ↦ elim (so_far.0 was) [ inl first ↦ inl first | inr before ↦ inr (more.1 (inl before)) ]
          | inr here ↦ inr (more.1 (inr (sym here)))
        ]),
        (λ h. one.1 (elim h [
          | inl first ↦ inl (so_far.1 (inl first))
          | inr among ↦ elim (more.0 among) [ inl before ↦ inl (so_far.1 (inr before)) | inr here ↦ inr (sym here) ]
        ])),
      );
}

pub returns-clause-marks : goal.returns-clause-marks
returns-clause-marks c e =
    let all = front_all c.args.elements.now c.loop-elem.elem-index c.loop-elem-test.false e in
    let so_far = c.loop-elem.invariant.marks e in (
      (λ h. elim (so_far.0 h) [ inl first ↦ inl first | inr front ↦ inr (all.0 front) ]),
      (λ h. so_far.1 (elim h [ inl first ↦ inl first | inr among ↦ inr (all.1 among) ])),
    )
