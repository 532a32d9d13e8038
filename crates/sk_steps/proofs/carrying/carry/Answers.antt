use Rattle.sk_steps.proofs.KindLemmas.{box_of-kind}
use Rattle.sk_steps.proofs.MotionLemmas.{carried-Keeps}
use Rattle.sk_steps.proofs.carrying.carry.Goals as goal

pub returns-clause-kind : goal.returns-clause-kind
returns-clause-kind g c = rw c.carry_box.ensures (box_of-kind _ _ _ _)

pub returns-clause-nested : goal.returns-clause-nested
returns-clause-nested g c k fine box motion_inside box_inside =
    rw c.carry_box.ensures (carried-Keeps _ _ g.G.Grid.BITS k fine c.args.m.now box c.args.b.now motion_inside box_inside)
