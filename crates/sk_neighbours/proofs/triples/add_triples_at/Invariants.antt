use Rattle.std.proofs.Common.{take}
use Rattle.sk_triangles.specs.Growing.{GrowsBy, FromSome}
use Rattle.sk_neighbours.specs.Triples.{AtCorner}
use Rattle.sk_neighbours.proofs.triples.add_triples_at.Given as goal

abbrev pub invariant-loop-a : goal.invariant-loop-a
invariant-loop-a l = GrowsBy (FromSome (AtCorner l.third l.index l.x) (take l.a-index l.elements)) l.fn.all l.all
