use Rattle.sk_rules.specs.Reach.{stays}
use Rattle.sk_close_by_order.proofs.close.close_family.Goals as goal

pub returns-in_err-work-clause-reached : goal.returns-in_err-work-clause-reached
returns-in_err-work-clause-reached g c = stays
