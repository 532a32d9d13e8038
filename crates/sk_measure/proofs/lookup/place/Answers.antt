use Rattle.std.proofs.Common.{◌≡◌, List, get_or, pos, rules, subst}
use Rattle.std.specs.Prelude.{Contains}
use Rattle.std.proofs.lemmas.List.Elements.{Contains-get_or}
use Rattle.std.proofs.lemmas.List.Sorted.{answers_always}
use Rattle.sk_base.specs.declared.At.TheVariants.{Point}
use Rattle.sk_base.specs.declared.Spot.{Spot}
use Rattle.sk_base.specs.Numbering.{elem_exact}
use Rattle.sk_base.proofs.Halves.{number_found}
use Rattle.sk_measure.proofs.lookup.place.Goals as goal

pub returns-in-Ok : goal.returns-in-Ok
returns-in-Ok c =
    let any : Spot = record { elem = record { 0 = 0 }; at = Point (pos 0) (pos 0) } in
    let spots : List Spot = c.as_slice-spots.result.now in
    let spot : Spot = get_or spots c.in-Ok.i any in
    let found = c.in-Ok.ensures.position (λ (s : Spot). s.elem.0) (answers_always _ _ _ (λ f a r g called. search rules)) in
    let number : spot.elem.0 ≡ c.args.e.0 = number_found (λ (s : Spot). s.elem.0) spots c.args.e.0 c.in-Ok.i found any in
    let inside : Contains spots spot = Contains-get_or spots c.in-Ok.i any c.in-Ok.ensures.bound in
    c.requires.1.once spot (subst (λ (xs : List Spot). Contains xs spot) c.as_slice-spots.ensures inside) (elem_exact spot.elem c.args.e number)
