use Rattle.sk_frame.proofs.MotionLaws.{exact_along_axes, finer_motion}
use Rattle.sk_frame.proofs.taking.frame_motion.Goals as goal

pub returns-clause-exact : goal.returns-clause-exact
returns-clause-exact g c = λ enough. exact_along_axes g.G.Grid.BITS enough c.args.f.now c.requires c.unit_motion.result c.unit_motion.ensures

pub returns-clause-nested : goal.returns-clause-nested
returns-clause-nested g c = λ k. finer_motion _ g.G.Grid.BITS g.G.Grid.enough c.args.f.now c.requires c.unit_motion.result c.unit_motion.ensures k
