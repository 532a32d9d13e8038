use Rattle.std.proofs.Common.{List, sym, subst}
use Rattle.std.specs.Prelude.{IsTrue}
use Rattle.sk_base.specs.declared.Elem.{Elem}
use Rattle.sk_close_by_angles.specs.Ties.{HaveTiedLines}
use Rattle.sk_close_by_angles.specs.Classes.{IsClassAmong}
use Rattle.sk_close_by_angles.proofs.Finding.{one_is_tied}
use Rattle.sk_close_by_angles.proofs.tie_merges.are_tied.Goals as goal

pub returns : goal.returns
returns c g f x y are x_in y_in x_is y_is =
    let classes = c.args.classes.now in
    let both = one_is_tied g f classes are x y x_in y_in c.class_among.result c.class_among-2.result
    (subst (λ (es : List Elem). IsClassAmong classes es c.class_among.result) (sym x_is) c.class_among.ensures)
    (subst (λ (es : List Elem). IsClassAmong classes es c.class_among-2.result) (sym y_is) c.class_among-2.ensures) in
    let told = subst (λ (es : List Elem). HaveTiedLines g f es y.elements → IsTrue c.are_one.result) x_is (λ h. c.are_one.ensures.1 (both.1 h)) in
    let tells = subst (λ (es : List Elem). IsTrue c.are_one.result → HaveTiedLines g f es y.elements) x_is (λ h. both.0 (c.are_one.ensures.0 h)) in (
      subst (λ (es : List Elem). IsTrue c.are_one.result → HaveTiedLines g f c.args.xs.now es) y_is tells,
      subst (λ (es : List Elem). HaveTiedLines g f c.args.xs.now es → IsTrue c.are_one.result) y_is told,
    )
