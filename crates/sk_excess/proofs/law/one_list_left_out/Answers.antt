use Rattle.sk_excess.proofs.Choosing.{some_left_out, one_list}
use Rattle.sk_excess.proofs.law.one_list_left_out.Goals as goal

pub returns-clause-some : goal.returns-clause-some
returns-clause-some c g sound one = some_left_out g sound one

pub returns-clause-one : goal.returns-clause-one
returns-clause-one c g one other sound p q = one_list g sound one other p q
