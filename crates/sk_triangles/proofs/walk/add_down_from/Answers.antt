use Rattle.sk_triangles.proofs.Growing.{grows_start, grows_step, grows_end}
use Rattle.sk_triangles.specs.Walk.{DownBy}
use Rattle.sk_triangles.proofs.walk.add_down_from.Goals as goal

pub loop-x-init : goal.loop-x-init
loop-x-init g c = grows_start (DownBy (g.V.Visitor.keeps c.args.visitor.now) c.args.lines.now c.args.counts.now c.args.ends.now c.args.highs.now) c.args.seen.now c.args.all.now

pub loop-x-preserved : goal.loop-x-preserved
loop-x-preserved g c =
    grows_step (DownBy (g.V.Visitor.keeps c.args.visitor.now) c.args.lines.now c.args.counts.now c.args.ends.now c.args.highs.now) c.args.seen.now c.args.all.now c.loop-x.all c.add_down_by.new.all c.loop-x.x-index _ c.loop-x-test.true c.loop-x.invariant c.in_ok-add_down_by.ensures

pub returns : goal.returns
returns g c =
    grows_end (DownBy (g.V.Visitor.keeps c.args.visitor.now) c.args.lines.now c.args.counts.now c.args.ends.now c.args.highs.now) c.args.seen.now c.args.all.now c.loop-x.all c.loop-x.x-index c.loop-x-test.false c.loop-x.invariant
