use Rattle.std.proofs.Common.{subst, List}
use Rattle.sk_base.specs.declared.Elem.{Elem}
use Rattle.sk_triangles.specs.Growing.{GrowsBy, FromSome}
use Rattle.sk_triangles.proofs.Growing.{grows_start, grows_step, grows_end}
use Rattle.sk_neighbours.specs.Walked.{MeetAt}
use Rattle.sk_neighbours.proofs.meeting.add_meeting_of.Goals as goal

pub loop-b-init : goal.loop-b-init
loop-b-init c = grows_start (MeetAt c.args.meetings.now.third c.args.meetings.now.index.now c.args.meetings.now.ends.now c.args.meetings.now.x c.args.meetings.now.a c.args.d c.args.z.now.name) c.as_slice-b-items.result.now c.args.all.now

pub loop-b-preserved : goal.loop-b-preserved
loop-b-preserved c =
    grows_step (MeetAt c.args.meetings.now.third c.args.meetings.now.index.now c.args.meetings.now.ends.now c.args.meetings.now.x c.args.meetings.now.a c.args.d c.args.z.now.name) c.as_slice-b-items.result.now c.args.all.now c.loop-b.all c.add_meeting_at.new.all c.loop-b.b-index (record { 0 = 0 }) c.loop-b-test.true c.loop-b.invariant c.in_ok-add_meeting_at.ensures

pub returns : goal.returns
returns c =
    subst (λ (xs : List Elem). GrowsBy (FromSome (MeetAt c.args.meetings.now.third c.args.meetings.now.index.now c.args.meetings.now.ends.now c.args.meetings.now.x c.args.meetings.now.a c.args.d c.args.z.now.name) xs) c.args.all.now c.loop-b.all) c.as_slice-b-items.ensures
    (grows_end (MeetAt c.args.meetings.now.third c.args.meetings.now.index.now c.args.meetings.now.ends.now c.args.meetings.now.x c.args.meetings.now.a c.args.d c.args.z.now.name) c.as_slice-b-items.result.now c.args.all.now c.loop-b.all c.loop-b.b-index c.loop-b-test.false c.loop-b.invariant)
