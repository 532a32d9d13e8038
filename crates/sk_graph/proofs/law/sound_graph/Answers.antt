use Rattle.sk_graph.proofs.Naming.{edge_between, block_at}
use Rattle.sk_graph.proofs.Soundness.{graph_is_sound, edge_unless_block, edge_id, block_id}
use Rattle.sk_graph.proofs.law.sound_graph.Goals as goal

pub returns-clause-sound : goal.returns-clause-sound
returns-clause-sound c = graph_is_sound

pub returns-clause-either : goal.returns-clause-either
returns-clause-either c s k = edge_unless_block s k.number k.rule

pub returns-clause-numbers : goal.returns-clause-numbers
returns-clause-numbers c s k = edge_id s k.number k.rule

pub returns-clause-block_numbers : goal.returns-clause-block_numbers
returns-clause-block_numbers c k = block_id k.number k.rule

pub returns-clause-ends : goal.returns-clause-ends
returns-clause-ends c s k = edge_between s k.number k.rule

pub returns-clause-pins : goal.returns-clause-pins
returns-clause-pins c k = block_at k.number k.rule
