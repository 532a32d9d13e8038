use Rattle.sk_neighbours.specs.Triples.{AtCorner}
use Rattle.sk_triangles.proofs.Growing.{grows_start, grows_step, grows_end}
use Rattle.sk_neighbours.proofs.triples.add_triples_at.Goals as goal

pub loop-a-init : goal.loop-a-init
loop-a-init c = grows_start (AtCorner c.args.third c.args.index.now c.args.x.now) c.args.elements.now c.args.all.now

pub loop-a-preserved : goal.loop-a-preserved
loop-a-preserved c =
    grows_step (AtCorner c.args.third c.args.index.now c.args.x.now) c.args.elements.now c.args.all.now c.loop-a.all c.add_at_corner.new.all c.loop-a.a-index (record { 0 = 0 }) c.loop-a-test.true c.loop-a.invariant c.in_ok-add_at_corner.ensures

pub returns : goal.returns
returns c = grows_end (AtCorner c.args.third c.args.index.now c.args.x.now) c.args.elements.now c.args.all.now c.loop-a.all c.loop-a.a-index c.loop-a-test.false c.loop-a.invariant
