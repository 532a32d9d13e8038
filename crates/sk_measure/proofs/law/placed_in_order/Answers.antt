use Rattle.sk_measure.proofs.InOrder.{exactly_in_order}
use Rattle.sk_measure.proofs.law.placed_in_order.Goals as goal

pub returns : goal.returns
returns c = exactly_in_order
