use Rattle.sk_steps.proofs.MotionLemmas.{motion-Keeps}
use Rattle.sk_steps.proofs.moving.motion_by.Goals as goal

pub returns-clause-nested : goal.returns-clause-nested
returns-clause-nested g c k fine_old fine_new old_inside new_inside =
    rw c.by_kinds.ensures (motion-Keeps _ _ g.G.Grid.BITS k fine_old fine_new c.args.old.now c.args.new.now old_inside new_inside)
