use Rattle.std.proofs.Common.{refl}
use Rattle.sk_measure.specs.Items.{normal}
use Rattle.sk_tolerance.proofs.worst.Worst.with_normal.Goals as goal

pub returns-in-Line : goal.returns-in-Line
returns-in-Line c = λ items told. rw c.in-Line.is (c.with.ensures c.args.p.now items (normal c.args.node.now.elem) told c.own_least_of_normal.ensures refl)
