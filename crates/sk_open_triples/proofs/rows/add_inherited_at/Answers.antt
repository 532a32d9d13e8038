use Rattle.std.proofs.Common.{◌∙◌, List, ap, subst}
use Rattle.sk_base.proofs.Searches.{on_ok}
use Rattle.sk_family.specs.declared.Merge.{Merge}
use Rattle.sk_triangles.specs.Growing.{FromSome, GrowsBy}
use Rattle.sk_triangles.proofs.Growing.{grows_none, grows_same}
use Rattle.sk_open_triples.specs.Inherited.{Inherits}
use Rattle.sk_open_triples.specs.OpenRows.{InheritsAt, InheritsElse, merges_of}
use Rattle.sk_open_triples.proofs.Inheritance.{row_of_key}
use Rattle.sk_open_triples.proofs.rows.add_inherited_at.Goals as goal

pub returns-then-key-but : goal.returns-then-key-but
returns-then-key-but c = grows_none (InheritsElse c.args.rows.now c.args.but c.args.heir c.args.gone.now c.args.key) c.args.all.now (λ m (other, _). other c.if-key-but.true)

pub returns : goal.returns
returns c =
    let rows = c.args.rows.now in
    let heir = c.args.heir in
    let gone = c.args.gone.now in
    on_ok c.add_inherited.result c.add_inherited.ensures (λ grows.
    grows_same (InheritsAt rows heir gone c.args.key) (InheritsElse rows c.args.but heir gone c.args.key) c.args.all.now c.add_inherited.new.all
    (λ m. ((λ is. (c.if-key-but.false, is)), (λ (other, is). is)))
    (subst (λ (ts : List Merge). GrowsBy (FromSome (Inherits heir gone) ts) c.args.all.now c.add_inherited.new.all) (ap merges_of c.index-rows-key.is ∙ row_of_key rows c.args.key c.index-rows-key.result c.requires.within) grows))
