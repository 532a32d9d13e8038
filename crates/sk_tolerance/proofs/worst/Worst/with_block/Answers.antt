use Rattle.std.proofs.Common.{refl}
use Rattle.sk_measure.specs.Items.{block}
use Rattle.sk_tolerance.proofs.worst.Worst.with_block.Goals as goal

pub returns : goal.returns
returns c = λ items told. c.with.ensures c.args.p.now items (block c.args.b.now) told c.own_least_of_block.ensures refl
