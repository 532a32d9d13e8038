use Rattle.sk_triangles.proofs.Growing.{grows_start, grows_step, grows_end}
use Rattle.sk_neighbours.specs.Walked.{Meets}
use Rattle.sk_neighbours.proofs.meeting.add_meets.Goals as goal

pub loop-end-init : goal.loop-end-init
loop-end-init c = grows_start (Meets c.args.third c.args.x c.args.z) c.args.ends.now c.args.all.now

pub loop-end-preserved : goal.loop-end-preserved
loop-end-preserved c =
    grows_step (Meets c.args.third c.args.x c.args.z) c.args.ends.now c.args.all.now c.loop-end.all c.add_meet.new.all c.loop-end.end-index _ c.loop-end-test.true c.loop-end.invariant c.in_ok-add_meet.ensures

pub returns : goal.returns
returns c =
    grows_end (Meets c.args.third c.args.x c.args.z) c.args.ends.now c.args.all.now c.loop-end.all c.loop-end.end-index c.loop-end-test.false c.loop-end.invariant
