use Rattle.sk_triangles.proofs.Growing.{grows_start, grows_step, grows_end}
use Rattle.sk_neighbours.specs.Walks.{AtElement}
use Rattle.sk_neighbours.proofs.walk.Walk.along.Goals as goal

pub loop-elem-init : goal.loop-elem-init
loop-elem-init g c = grows_start (AtElement (g.V.HolderVisitor.keeps c.args.visitor.now) c.args.self.now.index.now c.args.self.now.below) c.args.elements.now c.args.all.now

pub loop-elem-preserved : goal.loop-elem-preserved
loop-elem-preserved g c =
    grows_step (AtElement (g.V.HolderVisitor.keeps c.args.visitor.now) c.args.self.now.index.now c.args.self.now.below) c.args.elements.now c.args.all.now c.loop-elem.all c.at_element.new.all c.loop-elem.elem-index _ c.loop-elem-test.true c.loop-elem.invariant c.in_ok-at_element.ensures

pub returns : goal.returns
returns g c = grows_end (AtElement (g.V.HolderVisitor.keeps c.args.visitor.now) c.args.self.now.index.now c.args.self.now.below) c.args.elements.now c.args.all.now c.loop-elem.all c.loop-elem.elem-index c.loop-elem-test.false c.loop-elem.invariant
