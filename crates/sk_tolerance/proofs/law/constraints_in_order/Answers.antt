use Rattle.sk_tolerance.proofs.Merging.{merged_constraints, merged_lengthwise, without_blocks}
use Rattle.sk_tolerance.proofs.law.constraints_in_order.Goals as goal

pub returns : goal.returns
returns c = record { all = merged_constraints; lengths = merged_lengthwise; without_blocks = without_blocks }
