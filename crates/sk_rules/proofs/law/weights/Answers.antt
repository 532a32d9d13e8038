use Rattle.sk_rules.proofs.WeighedGraphs.{held_counts, sound_two_each, owned_count}
use Rattle.sk_rules.proofs.law.weights.Goals as goal

pub returns-clause-held : goal.returns-clause-held
returns-clause-held c g xs sound = held_counts g sound xs

pub returns-clause-two_each : goal.returns-clause-two_each
returns-clause-two_each c g sound = sound_two_each g sound

pub returns-clause-without_blocks : goal.returns-clause-without_blocks
returns-clause-without_blocks c g f sound none reached x x_in = owned_count g sound none f reached x x_in
