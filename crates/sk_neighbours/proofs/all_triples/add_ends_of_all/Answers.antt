use Rattle.std.proofs.Common.{subst}
use Rattle.sk_family.specs.declared.Cluster.{Cluster}
use Rattle.sk_triangles.specs.Growing.{GrowsBy}
use Rattle.sk_triangles.proofs.Growing.{grows_start, grows_step, grows_end}
use Rattle.sk_neighbours.specs.AllTriples.{EndsOf}
use Rattle.sk_neighbours.proofs.all_triples.add_ends_of_all.Goals as goal

pub loop-r-init : goal.loop-r-init
loop-r-init c = grows_start (EndsOf) c.args.clusters.now c.args.ends.now

pub loop-r-preserved : goal.loop-r-preserved
loop-r-preserved c =
    grows_step (EndsOf) c.args.clusters.now c.args.ends.now c.loop-r.ends c.add_ends_of.new.ends c.loop-r.r-index c.r-item.result c.loop-r-test.true c.loop-r.invariant (subst (λ (x : Cluster). GrowsBy (EndsOf x) c.loop-r.ends c.add_ends_of.new.ends) c.r-item.is c.in_ok-add_ends_of.ensures)

pub returns : goal.returns
returns c =
    grows_end (EndsOf) c.args.clusters.now c.args.ends.now c.loop-r.ends c.loop-r.r-index c.loop-r-test.false c.loop-r.invariant
