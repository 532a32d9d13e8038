use Rattle.sk_excess.specs.LeftOut.{kept_graph}
use Rattle.sk_why.proofs.Following.{follows_enough, follows_minimal, follows_one}
use Rattle.sk_why.proofs.Laws.{of_because}
use Rattle.sk_why.proofs.SomeBecause.{some_follow}
use Rattle.sk_why.proofs.law.follows.Goals as goal

pub returns-clause-enough : goal.returns-clause-enough
returns-clause-enough c g left because k s sound one are follows s_in numbered = follows_enough g sound left k because follows s s_in numbered one are

pub returns-clause-minimal : goal.returns-clause-minimal
returns-clause-minimal c g left because n k s sound follows s_in numbered k_in = follows_minimal g sound left n because follows s s_in numbered k k_in

pub returns-clause-kept : goal.returns-clause-kept
returns-clause-kept c g left because n k follows k_in = (of_because (kept_graph left g) follows.start.elements because follows.are k k_in).0

pub returns-clause-some : goal.returns-clause-some
returns-clause-some c g left n sound has = some_follow g sound left n has

pub returns-clause-one : goal.returns-clause-one
returns-clause-one c g left one other n sound p q = follows_one g sound left n one other p q
