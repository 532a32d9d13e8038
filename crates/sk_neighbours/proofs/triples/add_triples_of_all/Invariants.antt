use Rattle.std.proofs.Common.{take}
use Rattle.sk_triangles.specs.Growing.{GrowsBy, FromSome}
use Rattle.sk_neighbours.specs.Triples.{TriplesOf}
use Rattle.sk_neighbours.proofs.triples.add_triples_of_all.Given as goal

abbrev pub invariant-loop-x : goal.invariant-loop-x
invariant-loop-x l = GrowsBy (FromSome (TriplesOf l.index) (take l.x-index l.clusters)) l.fn.all l.all
