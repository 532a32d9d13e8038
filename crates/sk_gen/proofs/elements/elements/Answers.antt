use Rattle.sk_gen.proofs.Growing.{point_appended}
use Rattle.sk_gen.proofs.elements.elements.Goals as goal

pub loop-i-preserved : goal.loop-i-preserved
loop-i-preserved c = point_appended c.loop-i.i _ c.loop-i.elements _ c.loop-i.invariant c.in_ok-point.ensures c.in_ok-push-3.ensures.ok
