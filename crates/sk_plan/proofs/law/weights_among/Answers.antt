use Rattle.sk_plan.proofs.Weighed.{elements_weigh, lines_weigh}
use Rattle.sk_plan.proofs.law.weights_among.Goals as goal

pub returns-clause-elements : goal.returns-clause-elements
returns-clause-elements c g xs sound = elements_weigh g sound xs

pub returns-clause-lines : goal.returns-clause-lines
returns-clause-lines c g lines sound are_lines = lines_weigh g sound lines are_lines
