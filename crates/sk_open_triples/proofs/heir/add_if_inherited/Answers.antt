use Rattle.std.proofs.Common.{◌∙◌, ap, inl, inr, refl, subst, sym, List}
use Rattle.std.specs.Prelude.{not}
use Rattle.sk_base.proofs.Searches.{on_ok}
use Rattle.sk_family.proofs.Naming.{among_named, not_named}
use Rattle.sk_family.specs.declared.Merge.{Merge}
use Rattle.sk_family.specs.declared.Merge.TheVariants.{Three}
use Rattle.sk_triangles.specs.Growing.{GrowsBy}
use Rattle.sk_triangles.proofs.Growing.{grows_none, grows_one}
use Rattle.sk_open_triples.specs.Inherited.{Inherits}
use Rattle.sk_open_triples.proofs.Inherited.{inherits_none, inherits_one}
use Rattle.sk_open_triples.proofs.heir.add_if_inherited.Goals as goal
use Rattle.sk_open_triples.proofs.heir.add_if_inherited.Goals.{then-is_among-via-then-is_among, then-is_among-via-else-is_among+then-is_among-2}

pub returns-then-is_among : goal.returns-then-is_among
returns-then-is_among c =
    let heir = c.args.heir in
    let gone = c.args.gone.now in
    let p = c.in-Some.p in
    let q = c.in-Some.q in
    grows_none (Inherits heir gone c.args.merge) c.args.all.now (inherits_none heir gone c.args.merge p q c.in-Some.ensures.some
    (elim c.then-is_among.branch [
      | then-is_among-via-then-is_among w ↦ inl (among_named gone p (sym c.is_among.ensures ∙ w.if-is_among.true))
      | then-is_among-via-else-is_among+then-is_among-2 w ↦ inr (among_named gone q (sym w.is_among-else-is_among.ensures ∙ w.if-is_among-2.true))
    ]))

pub returns-else-is_among-2 : goal.returns-else-is_among-2
returns-else-is_among-2 c =
    let heir = c.args.heir in
    let gone = c.args.gone.now in
    let p = c.in-Some.p in
    let q = c.in-Some.q in
    let kind = Inherits heir gone c.args.merge in
    let beside = c.in-Some.ensures.some in
    let p_stays = not_named gone p (ap not (sym c.is_among.ensures ∙ c.if-is_among.false)) in
    let q_stays = not_named gone q (ap not (sym c.is_among-else-is_among.ensures ∙ c.if-is_among-2.false)) in
    on_ok c.push.result c.push.ensures.ok (λ ok. subst (λ (l : List Merge). GrowsBy kind c.args.all.now l) (sym ok)
    (grows_one kind c.args.all.now (Three heir.name p q) (p, q, beside, p_stays, q_stays, refl) (inherits_one heir gone c.args.merge p q beside)))
