use Rattle.std.proofs.Common.{take}
use Rattle.sk_triangles.specs.Growing.{GrowsBy, FromSome}
use Rattle.sk_triangles.specs.Walk.{DownBy}
use Rattle.sk_triangles.proofs.walk.add_down_from.Given as goal

abbrev pub invariant-loop-x : goal.invariant-loop-x
invariant-loop-x g l = GrowsBy (FromSome (DownBy (g.V.Visitor.keeps l.visitor) l.lines l.counts l.ends l.highs) (take l.x-index l.seen)) l.fn.all l.all
