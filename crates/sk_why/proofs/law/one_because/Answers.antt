use Rattle.sk_why.proofs.Laws.{one_list}
use Rattle.sk_why.proofs.SomeBecause.{some_because}
use Rattle.sk_why.proofs.law.one_because.Goals as goal

pub returns-clause-some : goal.returns-clause-some
returns-clause-some c g xs sound = some_because g sound xs

pub returns-clause-one : goal.returns-clause-one
returns-clause-one c g xs one other sound p q = one_list g sound xs one other p q
