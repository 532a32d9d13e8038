use Rattle.std.proofs.Common.{List, subst, map}
use Rattle.sk_base.proofs.Searches.{on_ok}
use Rattle.sk_triangles.specs.Growing.{FromSome, GrowsBy}
use Rattle.sk_triangles.proofs.Growing.{grows_same}
use Rattle.sk_open_triples.specs.declared.lower_pairs.LowerPair.{LowerPair}
use Rattle.sk_open_triples.specs.Inherited.{Inherits}
use Rattle.sk_open_triples.specs.OpenRows.{InheritsFrom, triple_of}
use Rattle.sk_open_triples.proofs.Inheritance.{inherited_by_row}
use Rattle.sk_open_triples.proofs.row.OpenRow.add_inherited.Goals as goal

pub returns : goal.returns
returns c =
    let heir = c.args.heir in
    let gone = c.args.gone.now in
    let row = c.args.self.now in
    let old = c.args.all.now in
    let new = c.add_inherited_of.new.all in
    on_ok c.add_inherited_of.result c.add_inherited_of.ensures (λ grows.
    grows_same (FromSome (InheritsFrom heir gone row.greatest) row.lower_pairs.items) (FromSome (Inherits heir gone) (map (triple_of row.greatest) row.lower_pairs.items)) old new
    (inherited_by_row heir gone row.greatest row.lower_pairs.items)
    (subst (λ (ps : List LowerPair). GrowsBy (FromSome (InheritsFrom heir gone row.greatest) ps) old new) c.as_slice.ensures.value grows))
