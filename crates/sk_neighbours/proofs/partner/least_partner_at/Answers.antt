use Rattle.sk_neighbours.specs.Partners.{PartnerUnless}
use Rattle.sk_neighbours.proofs.Least.{least_start, least_step, least_end}
use Rattle.sk_neighbours.proofs.partner.least_partner_at.Goals as goal

pub loop-elem-init : goal.loop-elem-init
loop-elem-init c = least_start (PartnerUnless c.args.hub c.args.index.now c.args.x.now) c.args.elements.now

pub loop-elem-preserved : goal.loop-elem-preserved
loop-elem-preserved c =
    least_step (PartnerUnless c.args.hub c.args.index.now c.args.x.now) c.args.elements.now c.loop-elem.elem-index (record { 0 = 0 }) c.loop-elem-test.true c.loop-elem.least c.partner_unless.result c.lesser-least.result c.loop-elem.invariant c.partner_unless.ensures c.lesser-least.ensures

pub returns : goal.returns
returns c = least_end (PartnerUnless c.args.hub c.args.index.now c.args.x.now) c.args.elements.now c.loop-elem.elem-index c.loop-elem-test.false c.loop-elem.least c.loop-elem.invariant
