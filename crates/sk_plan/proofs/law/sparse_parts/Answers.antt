use Rattle.sk_plan.proofs.Sparsity.{sparse, few_angles}
use Rattle.sk_plan.proofs.law.sparse_parts.Goals as goal

pub returns-clause-elements : goal.returns-clause-elements
returns-clause-elements c = sparse

pub returns-clause-lines : goal.returns-clause-lines
returns-clause-lines c = few_angles
