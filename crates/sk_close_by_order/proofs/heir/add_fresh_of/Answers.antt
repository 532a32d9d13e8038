use Rattle.std.proofs.Common.{sym, subst, List}
use Rattle.sk_base.specs.declared.Elem.{Elem}
use Rattle.sk_base.specs.Numbering.{elem_number}
use Rattle.sk_base.specs.Rising.{IsRising}
use Rattle.sk_base.proofs.Searches.{on_ok}
use Rattle.sk_triangles.specs.Growing.{FromSome, GrowsBy}
use Rattle.sk_close_by_order.specs.Heirs.{MissesSome}
use Rattle.sk_close_by_order.proofs.Freshening.{fresh_added, told_ok}
use Rattle.sk_close_by_order.proofs.heir.add_fresh_of.Goals as goal

pub add_missing-requires : goal.add_missing-requires
add_missing-requires c = subst (λ (es : List Elem). IsRising elem_number es) (sym c.as_slice-in-Some.ensures) (c.cluster.ensures.sound.bodies_rise c.args.base.now c.requires.lives).elements

pub returns-in-Some-clause-on : goal.returns-in-Some-clause-on
returns-in-Some-clause-on c is =
    let base = c.args.base.now in
    let cluster = c.in-Some.cluster.now in
    let old = c.args.fresh.now in
    let new = c.add_missing.new.all in
    told_ok c.add_missing.result c.is_ok.result c.is_ok.ensures.value is (on_ok c.add_missing.result c.add_missing.ensures (λ grows.
    fresh_added c.args.family.now base.name c.cluster.ensures.sound c.args.name cluster base c.in-Some.ensures.some c.requires old new
    (subst (λ (es : List Elem). GrowsBy (FromSome (MissesSome es) cluster.elements) old new) c.as_slice-in-Some.ensures
    (subst (λ (es : List Elem). GrowsBy (FromSome (MissesSome c.as_slice-in-Some.result.now) es) old new) c.as_slice.ensures grows))))
