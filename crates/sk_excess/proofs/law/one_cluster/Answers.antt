use Rattle.sk_excess.proofs.Choosing.{parts_of_whole}
use Rattle.sk_excess.proofs.law.one_cluster.Goals as goal

pub returns : goal.returns
returns c g j sound one is = parts_of_whole g sound one j is
