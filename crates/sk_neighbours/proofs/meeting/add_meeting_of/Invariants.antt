use Rattle.std.proofs.Common.{take}
use Rattle.sk_triangles.specs.Growing.{GrowsBy, FromSome}
use Rattle.sk_neighbours.specs.Walked.{MeetAt}
use Rattle.sk_neighbours.proofs.meeting.add_meeting_of.Given as goal

abbrev pub invariant-loop-b : goal.invariant-loop-b
invariant-loop-b l = GrowsBy (FromSome (MeetAt l.meetings.third l.meetings.index.now l.meetings.ends.now l.meetings.x l.meetings.a l.d l.z.name) (take l.b-index l.b-items)) l.fn.all l.all
