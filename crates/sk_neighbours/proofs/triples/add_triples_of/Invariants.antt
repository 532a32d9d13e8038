use Rattle.std.proofs.Common.{take}
use Rattle.sk_triangles.specs.Growing.{GrowsBy, FromSome}
use Rattle.sk_neighbours.specs.declared.triples.Third.TheVariants.{Below}
use Rattle.sk_neighbours.specs.Triples.{AtCorner}
use Rattle.sk_neighbours.proofs.triples.add_triples_of.Given as goal

abbrev pub invariant-loop-a : goal.invariant-loop-a
invariant-loop-a l = GrowsBy (FromSome (AtCorner Below l.index l.x) (take l.a-index l.a-items)) l.fn.all l.all
