use Rattle.std.proofs.Common.{sym, ◌∙◌, arith}
use Rattle.sk_place.proofs.Carryings.{carried_more}
use Rattle.sk_place.proofs.carry.carried_each.Goals as goal

pub loop-b-preserved : goal.loop-b-preserved
loop-b-preserved g c =
    rw c.in_ok-push.ensures.ok
    (sym (carried_more c.args.placing g.G.Grid.BITS c.args.motion.now c.args.boxes.now c.loop-b.b-index c.b-item.result c.in_ok-at.at c.loop-b.carried (omega arith) c.b-item.is (rw (c.settled_box.ensures.value, c.carry-made.ensures.value) at c.in_ok-at.ensures.value))
    ∙ c.loop-b.invariant)
