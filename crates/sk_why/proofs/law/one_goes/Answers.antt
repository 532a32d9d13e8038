use Rattle.sk_why.proofs.OneGroup.{still_over, any_one}
use Rattle.sk_why.proofs.law.one_goes.Goals as goal

pub returns-clause-no_other : goal.returns-clause-no_other
returns-clause-no_other c g left because n k f sound one are n_in follows k_out normal = still_over g sound left because n k one are n_in follows k_out f normal

pub returns-clause-any_one : goal.returns-clause-any_one
returns-clause-any_one c g because n k s f x sound one are not_over follows s_in numbered two k_in normal x_in = any_one g sound n one are not_over because follows s s_in numbered two k k_in f normal x x_in
