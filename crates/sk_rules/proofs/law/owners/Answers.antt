use Rattle.sk_rules.proofs.KeptClusters.{owner_lives, owned_is_constraint, owned_are_few}
use Rattle.sk_rules.proofs.law.owners.Goals as goal

pub returns-clause-owner : goal.returns-clause-owner
returns-clause-owner c g f e reach e_in = owner_lives g f reach e e_in

pub returns-clause-owned : goal.returns-clause-owned
returns-clause-owned c g f x k rises reach x_in x_k = owned_is_constraint g f reach rises x k x_in x_k

pub returns-clause-few : goal.returns-clause-few
returns-clause-few c g f x rises sound reach x_in = owned_are_few g f reach rises sound x x_in
