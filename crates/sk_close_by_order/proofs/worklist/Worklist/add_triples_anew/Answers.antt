use Rattle.std.proofs.Common.{sym, subst, List, Bool}
use Rattle.sk_base.proofs.Searches.{on_ok}
use Rattle.sk_base.specs.declared.Name.{Name}
use Rattle.sk_base.specs.declared.Name.TheVariants.{Con}
use Rattle.sk_triangles.specs.Growing.{FromSome, GrowsBy}
use Rattle.sk_triangles.proofs.Growing.{grows_same}
use Rattle.sk_family.specs.declared.Cluster.{Cluster}
use Rattle.sk_neighbours.specs.Indexed.{lines_in}
use Rattle.sk_neighbours.specs.Triples.{TriplesOf}
use Rattle.sk_neighbours.specs.AllTriples.{IsTripleAmong}
use Rattle.sk_close_by_order.specs.Gather.{IsUncovered}
use Rattle.sk_close_by_order.proofs.Turning.{all_uncovered, walks_uncovered}
use Rattle.sk_close_by_order.proofs.worklist.Worklist.add_triples_anew.Goals as goal

pub returns-then-is_at_start-clause-grows : goal.returns-then-is_at_start-clause-grows
returns-then-is_at_start-clause-grows c =
    let w = c.args.self.now in
    let f = c.args.family.now in
    on_ok c.add_all_triples.result c.add_all_triples.ensures (λ grows g follows.
    subst (λ (n : Name). GrowsBy (IsUncovered g f n) c.args.all.now c.add_all_triples.new.all) (sym (c.is_at_start.ensures c.if-is_at_start.true))
    (grows_same (IsTripleAmong (lines_in w.index) f.live) (IsUncovered g f (Con 0)) c.args.all.now c.add_all_triples.new.all
    (all_uncovered w.index g f c.clusters.ensures.sound follows.represents)
    (subst (λ (l : List Cluster). GrowsBy (IsTripleAmong (lines_in w.index) l) c.args.all.now c.add_all_triples.new.all) c.clusters.ensures.live
    (subst (λ (marks : List Bool). GrowsBy (IsTripleAmong marks c.clusters.result.now) c.args.all.now c.add_all_triples.new.all) c.lines.ensures grows))))

pub add_triples_of_all-requires-clause-index : goal.add_triples_of_all-requires-clause-index
add_triples_of_all-requires-clause-index c = (let (g, follows) = c.requires in follows.represents.index)

pub add_triples_of_all-requires-clause-rise : goal.add_triples_of_all-requires-clause-rise
add_triples_of_all-requires-clause-rise c x x_in = (c.not_below.ensures.sound.bodies_rise x ((c.not_below.ensures.live x).0 x_in).0).elements

pub returns-else-is_at_start-clause-grows : goal.returns-else-is_at_start-clause-grows
returns-else-is_at_start-clause-grows c =
    let w = c.args.self.now in
    let f = c.args.family.now in
    on_ok c.add_triples_of_all.result c.add_triples_of_all.ensures (λ grows g follows.
    grows_same (FromSome (TriplesOf w.index) c.not_below.result.now) (IsUncovered g f w.covered) c.args.all.now c.add_triples_of_all.new.all
    (walks_uncovered w.index g f c.not_below.ensures.sound follows.represents w.covered c.not_below.result.now c.not_below.ensures.live) grows)
