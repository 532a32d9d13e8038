use Rattle.std.proofs.Common.{take}
use Rattle.sk_triangles.specs.Growing.{GrowsBy, FromSome}
use Rattle.sk_neighbours.specs.Walks.{AtKey}
use Rattle.sk_neighbours.proofs.walk.Walk.at_element.Given as goal

abbrev pub invariant-loop-key : goal.invariant-loop-key
invariant-loop-key g l = GrowsBy (FromSome (AtKey (g.V.HolderVisitor.keeps l.visitor) l.self.index.now l.elem) (take l.key-index l.key-items)) l.fn.all l.all
