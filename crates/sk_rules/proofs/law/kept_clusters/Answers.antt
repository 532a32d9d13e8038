use Rattle.sk_rules.proofs.Keeping.{kept_is_reached}
use Rattle.sk_rules.proofs.law.kept_clusters.Goals as goal

pub returns : goal.returns
returns c = kept_is_reached
