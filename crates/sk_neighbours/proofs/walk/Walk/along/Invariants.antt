use Rattle.std.proofs.Common.{take}
use Rattle.sk_triangles.specs.Growing.{GrowsBy, FromSome}
use Rattle.sk_neighbours.specs.Walks.{AtElement}
use Rattle.sk_neighbours.proofs.walk.Walk.along.Given as goal

abbrev pub invariant-loop-elem : goal.invariant-loop-elem
invariant-loop-elem g l = GrowsBy (FromSome (AtElement (g.V.HolderVisitor.keeps l.visitor) l.self.index.now l.self.below) (take l.elem-index l.elements)) l.fn.all l.all
