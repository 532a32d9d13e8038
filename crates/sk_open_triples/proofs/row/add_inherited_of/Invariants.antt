use Rattle.std.proofs.Common.{take}
use Rattle.sk_triangles.specs.Growing.{GrowsBy, FromSome}
use Rattle.sk_open_triples.specs.OpenRows.{InheritsFrom}
use Rattle.sk_open_triples.proofs.row.add_inherited_of.Given as goal

abbrev pub invariant-loop-pair : goal.invariant-loop-pair
invariant-loop-pair l = GrowsBy (FromSome (InheritsFrom l.heir l.gone l.greatest) (take l.pair-index l.rest)) l.fn.all l.all
