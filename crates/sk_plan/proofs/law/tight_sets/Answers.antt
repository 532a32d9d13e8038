use Rattle.sk_rules.proofs.WeighedGraphs.{sound_two_each}
use Rattle.sk_plan.proofs.TightSets.{tight_made}
use Rattle.sk_plan.proofs.law.tight_sets.Goals as goal

pub returns : goal.returns
returns c g f x xs p n sound normal none x_in distinct own tight lets there =
    tight_made g f sound (sound_two_each g sound) normal none x x_in xs distinct own tight p lets n there
