use Rattle.sk_triangles.proofs.Growing.{grows_start, grows_step, grows_end}
use Rattle.sk_triangles.specs.Walk.{LastBy}
use Rattle.sk_triangles.proofs.walk.add_last_of.Goals as goal

pub loop-y-init : goal.loop-y-init
loop-y-init g c = grows_start (LastBy (g.V.Visitor.keeps c.args.visitor.now) c.args.lines.now c.args.highs.now c.args.x) c.args.ends.now c.args.all.now

pub loop-y-preserved : goal.loop-y-preserved
loop-y-preserved g c =
    grows_step (LastBy (g.V.Visitor.keeps c.args.visitor.now) c.args.lines.now c.args.highs.now c.args.x) c.args.ends.now c.args.all.now c.loop-y.all c.add_last_by.new.all c.loop-y.y-index _ c.loop-y-test.true c.loop-y.invariant c.in_ok-add_last_by.ensures

pub returns : goal.returns
returns g c =
    grows_end (LastBy (g.V.Visitor.keeps c.args.visitor.now) c.args.lines.now c.args.highs.now c.args.x) c.args.ends.now c.args.all.now c.loop-y.all c.loop-y.y-index c.loop-y-test.false c.loop-y.invariant
