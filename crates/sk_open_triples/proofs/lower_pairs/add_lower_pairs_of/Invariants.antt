use Rattle.std.proofs.Common.{take}
use Rattle.sk_triangles.specs.Growing.{FromSome, GrowsBy}
use Rattle.sk_open_triples.specs.OpenRows.{HasLowerPair}
use Rattle.sk_open_triples.proofs.lower_pairs.add_lower_pairs_of.Given as goal

abbrev pub invariant-loop-merge : goal.invariant-loop-merge
invariant-loop-merge l = GrowsBy (FromSome HasLowerPair (take l.merge-index l.found)) l.fn.all l.all
