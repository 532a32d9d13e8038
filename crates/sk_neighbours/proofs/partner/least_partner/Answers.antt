use Rattle.std.proofs.Common.{subst, List}
use Rattle.sk_base.specs.declared.Elem.{Elem}
use Rattle.sk_triangles.specs.Growing.{FromSome}
use Rattle.sk_neighbours.specs.Partners.{IsLeast, Partner, PartnerUnless}
use Rattle.sk_neighbours.proofs.Least.{least_same}
use Rattle.sk_neighbours.proofs.Sharing.{unless_hub}
use Rattle.sk_neighbours.proofs.partner.least_partner.Goals as goal

pub returns : goal.returns
returns c =
    let ix = c.args.index.now in
    let x = c.args.x.now in
    let hub = c.hub_of.result in
    least_same (FromSome (PartnerUnless hub ix x) x.elements) (Partner ix x) (unless_hub ix x hub) c.least_partner_at.result
    (subst (λ (xs : List Elem). IsLeast (FromSome (PartnerUnless hub ix x) xs) c.least_partner_at.result) c.as_slice-elements.ensures c.least_partner_at.ensures)
