use Rattle.sk_why.proofs.OneGroup.{only_follows}
use Rattle.sk_why.proofs.law.only_group.Goals as goal

pub returns : goal.returns
returns c g left because ks n s sound one are not_over follows s_in numbered rise there enough minimal =
    only_follows g sound left one are not_over because n follows s s_in numbered ks rise there enough minimal
