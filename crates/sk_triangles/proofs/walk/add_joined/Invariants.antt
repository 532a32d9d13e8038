use Rattle.std.proofs.Common.{take}
use Rattle.sk_triangles.specs.Growing.{GrowsBy, FromSome}
use Rattle.sk_triangles.specs.Walk.{JoinedBy}
use Rattle.sk_triangles.proofs.walk.add_joined.Given as goal

abbrev pub invariant-loop-end : goal.invariant-loop-end
invariant-loop-end g l = GrowsBy (FromSome (JoinedBy (g.V.Visitor.keeps l.visitor) l.p l.q) (take l.end-index l.ends)) l.fn.all l.all
