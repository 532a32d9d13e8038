use Rattle.std.proofs.Common.{take}
use Rattle.sk_triangles.specs.Growing.{GrowsBy, FromSome}
use Rattle.sk_neighbours.specs.Walked.{Meets}
use Rattle.sk_neighbours.proofs.meeting.add_meets.Given as goal

abbrev pub invariant-loop-end : goal.invariant-loop-end
invariant-loop-end l = GrowsBy (FromSome (Meets l.third l.x l.z) (take l.end-index l.ends)) l.fn.all l.all
