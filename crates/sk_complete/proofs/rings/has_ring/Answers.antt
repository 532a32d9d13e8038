use Rattle.std.proofs.Common.{ℕ, ◌+◌, List, refl, sym, subst, ◌∙◌, take, arith}
use Rattle.sk_base.specs.declared.Elem.{Elem}
use Rattle.sk_close_by_angles.specs.Classes.{Coarsens, AreTogether, TellTies}
use Rattle.sk_close_by_angles.proofs.Classing.{all_written}
use Rattle.sk_complete.proofs.Ringing.{HasTwoAlike, TellsOf, ring_there, tells_next}
use Rattle.sk_complete.proofs.rings.has_ring.Goals as goal

pub returns-then-has_two_alike : goal.returns-then-has_two_alike
returns-then-has_two_alike c =
    let part = c.part-item.result in
    let classes = c.loop-part.classes.items in
    let told = c.has_two_alike.ensures.0 c.if-has_two_alike.true in
    let here = subst (λ (es : List Elem). HasTwoAlike c.as_slice-in-loop-part.result.now es) c.as_slice-in-loop-part-2.ensures told in
    let two = subst (λ (ks : List ℕ). HasTwoAlike ks part.elements) c.as_slice-in-loop-part.ensures.value here in (
      λ is. ring_there c.args.graph.now c.args.parts.now c.loop-part.part-index part c.loop-part-test.true c.part-item.is c.requires classes c.loop-part.invariant two,
      λ ring. refl,
    )

pub loop-part-preserved : goal.loop-part-preserved
loop-part-preserved c =
    let g = c.args.graph.now in
    let parts = c.args.parts.now in
    let i = c.loop-part.part-index in
    let part = c.part-item.result in
    let old = c.loop-part.classes.items in
    let new = c.tie_all.new.classes in
    let value = c.as_mut_slice.ensures.value in
    let elements = c.as_slice-in-loop-part-3.ensures in
    let written = all_written c.loop-part.classes.len new old (omega (arith, c.tie_all.auto.classes, c.as_mut_slice.ensures.len)) in
    let alone : ¬ HasTwoAlike old part.elements = λ two. (
    let here = subst (λ (ks : List ℕ). HasTwoAlike ks part.elements) (sym c.as_slice-in-loop-part.ensures.value) two in
    let there = subst (λ (es : List Elem). HasTwoAlike c.as_slice-in-loop-part.result.now es) (sym c.as_slice-in-loop-part-2.ensures) here in
    let is = c.has_two_alike.ensures.1 there in
    let is_not = c.if-has_two_alike.false in
    absurd (cc)) in
    subst (λ (ks : List ℕ). TellsOf g (take (i + 1) parts) ks) (sym written)
    (tells_next g parts i part c.loop-part-test.true c.part-item.is old new c.loop-part.invariant alone
    (subst (λ (ks : List ℕ). Coarsens ks new) value c.tie_all.ensures.coarsens)
    (subst (λ (es : List Elem). AreTogether new es) elements c.tie_all.ensures.together)
    (λ f y y_in same told. c.tie_all.ensures.tell g f y y_in (same ∙ sym elements) (subst (λ (ks : List ℕ). TellTies g f ks) (sym value) told)))
