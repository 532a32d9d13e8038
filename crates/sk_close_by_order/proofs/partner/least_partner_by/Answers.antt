use Rattle.std.proofs.Common.{subst}
use Rattle.std.specs.Prelude.{Option, None}
use Rattle.sk_open_triples.specs.declared.Heir.{Heir}
use Rattle.sk_triangles.specs.Growing.{FromSome}
use Rattle.sk_neighbours.specs.Partners.{Partner, PartnerUnless}
use Rattle.sk_close_by_order.specs.Heirs.{TellsFresh}
use Rattle.sk_neighbours.proofs.Least.{least_same}
use Rattle.sk_close_by_order.proofs.partner.least_partner_by.Goals as goal

pub returns-then-is_same : goal.returns-then-is_same
returns-then-is_same c =
    let ix = c.args.index.now in
    let x = c.args.x.now in
    let fresh = c.args.fresh.now in
    let tells = subst (λ (o : Option Heir). TellsFresh ix o fresh x) c.in-Some.is c.requires.tells (c.is_same.ensures.0 c.if-is_same.true) in
    least_same (FromSome (PartnerUnless None ix x) fresh) (Partner ix x)
    (λ n. ((λ (e, e_in, (other, (y, held, e_y, below, two, named))). (y, held, below, two, named)), (λ h. (let (e, e_in, of) = tells n h in (e, e_in, ((λ never. cc), of))))))
    c.least_partner_at.result c.least_partner_at.ensures
