use Rattle.sk_gen.proofs.Growing.{distances_appended}
use Rattle.sk_gen.proofs.constraints.constraints.Goals as goal

pub loop-i-preserved : goal.loop-i-preserved
loop-i-preserved c = distances_appended c.loop-i.i c.loop-i.constraints _ c.loop-i.invariant c.in_ok-push_distances.ensures
