use Rattle.sk_triangles.specs.Growing.{FromSome}
use Rattle.sk_triangles.proofs.Growing.{grows_start, grows_step, grows_end, grows_same}
use Rattle.sk_neighbours.specs.Walks.{AtElement, AtKey}
use Rattle.sk_neighbours.proofs.HoldersBelow.{holders_walked}
use Rattle.sk_neighbours.proofs.walk.Walk.at_element.Goals as goal

pub loop-key-init : goal.loop-key-init
loop-key-init g c = grows_start (AtKey (g.V.HolderVisitor.keeps c.args.visitor.now) c.args.self.now.index.now c.args.elem) c.below-key-items.result.now c.args.all.now

pub loop-key-preserved : goal.loop-key-preserved
loop-key-preserved g c =
    grows_step (AtKey (g.V.HolderVisitor.keeps c.args.visitor.now) c.args.self.now.index.now c.args.elem) c.below-key-items.result.now c.args.all.now c.loop-key.all c.at_key.new.all c.loop-key.key-index 0 c.loop-key-test.true
    c.loop-key.invariant c.in_ok-at_key.ensures

pub returns : goal.returns
returns g c =
    let keeps = g.V.HolderVisitor.keeps c.args.visitor.now in
    let ix = c.args.self.now.index.now in
    let keys = c.below-key-items.result.now in
    grows_same (FromSome (AtKey keeps ix c.args.elem) keys) (AtElement keeps ix c.args.self.now.below c.args.elem) c.args.all.now c.loop-key.all
    (holders_walked ix c.requires.index keeps c.args.elem c.args.self.now.below keys c.below-key-items.ensures)
    (grows_end (AtKey keeps ix c.args.elem) keys c.args.all.now c.loop-key.all c.loop-key.key-index c.loop-key-test.false c.loop-key.invariant)
