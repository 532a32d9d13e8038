use Rattle.std.proofs.Common.{take}
use Rattle.sk_triangles.specs.Growing.{GrowsBy, FromSome}
use Rattle.sk_neighbours.specs.AllTriples.{EndsOf}
use Rattle.sk_neighbours.proofs.all_triples.add_ends_of_all.Given as goal

abbrev pub invariant-loop-r : goal.invariant-loop-r
invariant-loop-r l = GrowsBy (FromSome (EndsOf) (take l.r-index l.clusters)) l.fn.ends l.ends
