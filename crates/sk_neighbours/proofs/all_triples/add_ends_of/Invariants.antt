use Rattle.std.proofs.Common.{take}
use Rattle.sk_triangles.specs.Growing.{GrowsBy, FromSome}
use Rattle.sk_triangles.specs.Ends.{EndsAmong}
use Rattle.sk_neighbours.proofs.all_triples.add_ends_of.Given as goal

abbrev pub invariant-loop-c : goal.invariant-loop-c
invariant-loop-c l = GrowsBy (FromSome (λ e. EndsAmong l.r.name e l.r.elements) (take l.c-index l.c-items)) l.fn.ends l.ends
