use Rattle.std.proofs.Common.{take}
use Rattle.sk_triangles.specs.Growing.{GrowsBy, FromSome}
use Rattle.sk_triangles.specs.Walk.{LastBy}
use Rattle.sk_triangles.proofs.walk.add_last_of.Given as goal

abbrev pub invariant-loop-y : goal.invariant-loop-y
invariant-loop-y g l = GrowsBy (FromSome (LastBy (g.V.Visitor.keeps l.visitor) l.lines l.highs l.x) (take l.y-index l.ends)) l.fn.all l.all
