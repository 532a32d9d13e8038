use Rattle.std.proofs.Common.{◌≢◌, Bool, subst}
use Rattle.std.specs.Prelude.{IsTrue, Some}
use Rattle.sk_base.proofs.Searches.{refused}
use Rattle.sk_neighbours.specs.Partners.{PartnerOf, PartnerUnless}
use Rattle.sk_neighbours.proofs.Least.{least_same}
use Rattle.sk_neighbours.proofs.partner.partner_unless.Goals as goal

pub returns : goal.returns
returns c =
    let ix = c.args.index.now in
    let x = c.args.x.now in
    let other : c.args.hub ≢ Some c.args.elem = refused (λ h. subst (λ (b : Bool). IsTrue b) c.if-is_hub.false (c.is_hub.ensures.1 h)) in
    least_same (PartnerOf ix x c.args.elem) (PartnerUnless c.args.hub ix x c.args.elem) (λ n. ((λ of. (other, of)), (λ (apart, of). of))) c.partner_of.result c.partner_of.ensures
