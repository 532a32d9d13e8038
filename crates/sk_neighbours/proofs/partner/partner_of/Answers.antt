use Rattle.sk_neighbours.specs.Indexed.{IsBelowAt, holders_of}
use Rattle.sk_triangles.specs.Growing.{FromSome}
use Rattle.sk_neighbours.specs.Partners.{PartnerAt, PartnerBy, PartnerOf}
use Rattle.sk_neighbours.proofs.Least.{least_same, least_start, least_step, least_end}
use Rattle.sk_neighbours.proofs.Sharing.{given_below, partner_walked}
use Rattle.sk_neighbours.proofs.partner.partner_of.Goals as goal

pub loop-key-init : goal.loop-key-init
loop-key-init c = least_start (PartnerAt c.args.index.now c.args.x.now) c.below-key-items.result.now

pub loop-key-preserved : goal.loop-key-preserved
loop-key-preserved c =
    least_step (PartnerAt c.args.index.now c.args.x.now) c.below-key-items.result.now c.loop-key.key-index 0 c.loop-key-test.true c.loop-key.least c.partner_at.result c.lesser-least.result c.loop-key.invariant c.partner_at.ensures c.lesser-least.ensures

pub returns : goal.returns
returns c =
    let x = c.args.x.now in
    let ix = c.args.index.now in
    let keys = c.below-key-items.result.now in
    least_same (PartnerBy ix x c.args.elem) (PartnerOf ix x c.args.elem) (partner_walked ix x c.requires.index c.args.elem) c.loop-key.least
    (least_same (FromSome (PartnerAt ix x) keys) (PartnerBy ix x c.args.elem)
    (given_below keys (holders_of ix c.args.elem) (IsBelowAt ix x.name) c.below-key-items.ensures (PartnerAt ix x)) c.loop-key.least
    (least_end (PartnerAt ix x) keys c.loop-key.key-index c.loop-key-test.false c.loop-key.least c.loop-key.invariant))
