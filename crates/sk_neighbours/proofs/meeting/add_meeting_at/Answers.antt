use Rattle.std.proofs.Common.{refl}
use Rattle.sk_base.proofs.Searches.{on_ok}
use Rattle.sk_triangles.specs.Growing.{FromSome}
use Rattle.sk_triangles.proofs.Growing.{grows_same}
use Rattle.sk_neighbours.specs.Walked.{MeetAt, Meets}
use Rattle.sk_neighbours.proofs.AtCorners.{met_at}
use Rattle.sk_neighbours.proofs.meeting.add_meeting_at.Goals as goal

pub returns : goal.returns
returns c =
    let o = c.args.meetings.now in
    let ix = o.index.now in
    let ends = o.ends.now in
    on_ok c.add_meets.result c.add_meets.ensures (λ grows.
    grows_same (FromSome (Meets o.third o.x c.args.z) c.ends_at.result.now) (MeetAt o.third ix ends o.x o.a c.args.d c.args.z c.args.b) c.args.all.now c.add_meets.new.all
    (met_at o.third ix ends o.x o.a c.args.d c.args.z c.args.b c.ends_at.result.now c.ends_at.ensures (c.if-not-are_corners.ensures.0 refl)) grows)
