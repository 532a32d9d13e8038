use Rattle.sk_why.proofs.Following.{group_over}
use Rattle.sk_why.proofs.law.group_is_over.Goals as goal

pub returns : goal.returns
returns c g left because n f sound one are n_in follows normal = group_over g sound left n because follows one are n_in f normal
