use Rattle.std.proofs.Common.{subst, sym}
use Rattle.std.specs.Prelude.{Option}
use Rattle.sk_base.proofs.Searches.{on_ok}
use Rattle.sk_triangles.specs.Growing.{GrowsBy}
use Rattle.sk_open_triples.specs.declared.Heir.{Heir}
use Rattle.sk_close_by_order.specs.Heirs.{IsFound}
use Rattle.sk_close_by_order.proofs.worklist.Worklist.add_uncovered.Goals as goal

pub add_fresh_triples-requires : goal.add_fresh_triples-requires
add_fresh_triples-requires c = (let (g, follows) = c.requires in follows.represents.index)

pub returns-in-Some-clause-grows : goal.returns-in-Some-clause-grows
returns-in-Some-clause-grows c =
    let w = c.args.self.now in
    on_ok c.add_fresh_triples.result c.add_fresh_triples.ensures.grows (λ grows g follows.
    subst (λ (o : Option Heir). GrowsBy (IsFound w.index g c.args.family.now w.covered o w.fresh) c.args.all.now c.add_fresh_triples.new.all) (sym c.in-Some.is) grows)

pub returns-in-None-clause-grows : goal.returns-in-None-clause-grows
returns-in-None-clause-grows c =
    let w = c.args.self.now in
    on_ok c.add_triples_anew.result c.add_triples_anew.ensures.grows (λ grows g follows.
    subst (λ (o : Option Heir). GrowsBy (IsFound w.index g c.args.family.now w.covered o w.fresh) c.args.all.now c.add_triples_anew.new.all) (sym c.in-None.is) (grows g follows))
