use Rattle.sk_base.proofs.Quotients.{nearest_is_nearest}
use Rattle.sk_base.proofs.rounding.rounding_is_nearest.Goals as goal

pub returns : goal.returns
returns c = nearest_is_nearest
