use Rattle.sk_tree.proofs.OwnedNumbers.{edge_numbers}
use Rattle.sk_tree.proofs.law.numbers_without_blocks.Goals as goal

pub returns : goal.returns
returns c g no_blocks = edge_numbers g no_blocks
