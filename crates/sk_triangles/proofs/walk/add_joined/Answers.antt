use Rattle.sk_triangles.proofs.Growing.{grows_start, grows_step, grows_end}
use Rattle.sk_triangles.specs.Walk.{JoinedBy}
use Rattle.sk_triangles.proofs.walk.add_joined.Goals as goal

pub loop-end-init : goal.loop-end-init
loop-end-init g c = grows_start (JoinedBy (g.V.Visitor.keeps c.args.visitor.now) c.args.p c.args.q) c.args.ends.now c.args.all.now

pub loop-end-preserved : goal.loop-end-preserved
loop-end-preserved g c =
    grows_step (JoinedBy (g.V.Visitor.keeps c.args.visitor.now) c.args.p c.args.q) c.args.ends.now c.args.all.now c.loop-end.all c.add_join.new.all c.loop-end.end-index _ c.loop-end-test.true c.loop-end.invariant c.in_ok-add_join.ensures

pub returns : goal.returns
returns g c =
    grows_end (JoinedBy (g.V.Visitor.keeps c.args.visitor.now) c.args.p c.args.q) c.args.ends.now c.args.all.now c.loop-end.all c.loop-end.end-index c.loop-end-test.false c.loop-end.invariant
