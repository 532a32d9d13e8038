use Rattle.std.proofs.Common.{subst}
use Rattle.sk_family.specs.declared.Cluster.{Cluster}
use Rattle.sk_triangles.specs.Growing.{GrowsBy}
use Rattle.sk_neighbours.specs.Triples.{TriplesOf}
use Rattle.sk_triangles.proofs.Growing.{grows_start, grows_step, grows_end}
use Rattle.sk_neighbours.proofs.triples.add_triples_of_all.Goals as goal

pub loop-x-init : goal.loop-x-init
loop-x-init c = grows_start (TriplesOf c.args.index.now) c.args.clusters.now c.args.all.now

pub loop-x-preserved : goal.loop-x-preserved
loop-x-preserved c =
    grows_step (TriplesOf c.args.index.now) c.args.clusters.now c.args.all.now c.loop-x.all c.add_triples_of.new.all c.loop-x.x-index c.x-item.result c.loop-x-test.true c.loop-x.invariant
    (subst (λ (x : Cluster). GrowsBy (TriplesOf c.args.index.now x) c.loop-x.all c.add_triples_of.new.all) c.x-item.is c.in_ok-add_triples_of.ensures)

pub returns : goal.returns
returns c = grows_end (TriplesOf c.args.index.now) c.args.clusters.now c.args.all.now c.loop-x.all c.loop-x.x-index c.loop-x-test.false c.loop-x.invariant
