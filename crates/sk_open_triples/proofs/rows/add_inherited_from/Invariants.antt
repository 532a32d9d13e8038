use Rattle.std.proofs.Common.{take}
use Rattle.sk_triangles.specs.Growing.{GrowsBy, FromSome}
use Rattle.sk_open_triples.specs.OpenRows.{InheritsElse}
use Rattle.sk_open_triples.proofs.rows.add_inherited_from.Given as goal

abbrev pub invariant-loop-key : goal.invariant-loop-key
invariant-loop-key l = GrowsBy (FromSome (InheritsElse l.rows l.but l.heir l.gone) (take l.key-index l.keys)) l.fn.all l.all
