use Rattle.std.proofs.Common.{◌∙◌, List, rules, sym, ap}
use Rattle.std.specs.Prelude.{Some}
use Rattle.std.proofs.lemmas.List.Sorted.{answers_always}
use Rattle.sk_base.specs.declared.sketch.Element.{Element}
use Rattle.sk_base.specs.Rising.{IsRising}
use Rattle.sk_base.proofs.Halves.{found_first, none_first}
use Rattle.sk_base.proofs.sketch.Sketch.look_up.Goals as goal

pub returns-in-Ok : goal.returns-in-Ok
returns-in-Ok c =
    let elements : List Element = c.as_slice-elements.result.now in
    let found = c.in-Ok.ensures.position (λ (x : Element). x.number.0) (answers_always _ _ _ (λ f a r g called. search rules)) in
    let rises : IsRising (λ (x : Element). x.number.0) elements = rw c.as_slice-elements.ensures c.requires in
    let first = found_first (λ (x : Element). x.number.0) elements c.args.e.0 rises c.in-Ok.i c.in-Ok.ensures.bound found c.index-elements-i.result in
    ap Some (rw c.as_slice-elements.ensures at c.index-elements-i.is) ∙ sym (rw c.as_slice-elements.ensures at first)

pub returns-in-Err : goal.returns-in-Err
returns-in-Err c =
    let elements : List Element = c.as_slice-elements.result.now in
    let found = c.in-Err.ensures.position (λ (x : Element). x.number.0) (answers_always _ _ _ (λ f a r g called. search rules)) in
    let rises : IsRising (λ (x : Element). x.number.0) elements = rw c.as_slice-elements.ensures c.requires in
    let none = none_first (λ (x : Element). x.number.0) elements c.args.e.0 rises c.in-Err.field-0 found in
    sym (rw c.as_slice-elements.ensures at none)
