use Rattle.sk_rules.proofs.Excesses.{excess_of_pair, excess_of_triangle}
use Rattle.sk_rules.proofs.law.excess_of_merges.Goals as goal

pub returns-clause-pair : goal.returns-clause-pair
returns-clause-pair c = excess_of_pair

pub returns-clause-triangle : goal.returns-clause-triangle
returns-clause-triangle c = excess_of_triangle
