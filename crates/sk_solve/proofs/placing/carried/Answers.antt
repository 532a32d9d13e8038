use Rattle.sk_solve.proofs.SpotsPlaced.{carried_to_drawing}
use Rattle.sk_solve.proofs.placing.carried.Goals as goal

pub returns-in-Drawn-clause-carried : goal.returns-in-Drawn-clause-carried
returns-in-Drawn-clause-carried g c =
    rw c.in-Drawn.is (carried_to_drawing c.args.placing.by g.G.Grid.BITS c.args.s.now c.args.p.now c.args.g.now c.frame_of.result c.frame_motion-motion.result c.args.boxes c.moved.result
    c.requires.graph c.frame_of.ensures.value c.frame_motion-motion.ensures.value c.moved.ensures.moved)
