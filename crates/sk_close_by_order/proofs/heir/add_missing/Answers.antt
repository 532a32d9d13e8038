use Rattle.sk_close_by_order.specs.Heirs.{MissesSome}
use Rattle.sk_triangles.proofs.Growing.{grows_start, grows_step, grows_end}
use Rattle.sk_close_by_order.proofs.heir.add_missing.Goals as goal

pub loop-elem-init : goal.loop-elem-init
loop-elem-init c = grows_start (MissesSome c.args.many.now) c.args.elements.now c.args.all.now

pub loop-elem-preserved : goal.loop-elem-preserved
loop-elem-preserved c =
    grows_step (MissesSome c.args.many.now) c.args.elements.now c.args.all.now c.loop-elem.all c.add_if_missing.new.all c.loop-elem.elem-index (record { 0 = 0 }) c.loop-elem-test.true c.loop-elem.invariant c.in_ok-add_if_missing.ensures

pub returns : goal.returns
returns c = grows_end (MissesSome c.args.many.now) c.args.elements.now c.args.all.now c.loop-elem.all c.loop-elem.elem-index c.loop-elem-test.false c.loop-elem.invariant
