use Rattle.sk_tree.proofs.SomeTrees.{tree_of_taken}
use Rattle.sk_tree.proofs.AlikeTrees.{alike}
use Rattle.sk_tree.proofs.law.one_tree.Goals as goal

pub returns-clause-some : goal.returns-clause-some
returns-clause-some c taken t joins t_in = tree_of_taken taken joins t t_in

pub returns-clause-alike : goal.returns-clause-alike
returns-clause-alike c taken n one other steps has also = alike taken steps n one other has also
