use Rattle.std.proofs.Common.{refl}
use Rattle.sk_measure.specs.Items.{constraint}
use Rattle.sk_tolerance.proofs.worst.Worst.with_angle.Goals as goal

pub returns-in-LineLine : goal.returns-in-LineLine
returns-in-LineLine c = λ items told. rw c.in-LineLine.is (c.with.ensures c.args.p.now items (constraint c.args.e.now) told c.own_least.ensures refl)
