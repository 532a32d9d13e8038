use Rattle.sk_rules.proofs.KeptClusters.{adopted, dissolved, unchanged}
use Rattle.sk_rules.proofs.law.kept_family.Goals as goal

pub returns-clause-adopts : goal.returns-clause-adopts
returns-clause-adopts c old new f after e rose rises kinds sound reach more has = adopted old new f after rose rises kinds sound reach e more has

pub returns-clause-dissolves : goal.returns-clause-dissolves
returns-clause-dissolves c old new f after n k rose rises kinds was_sound sound reach less d owns = dissolved old new f after rose rises kinds sound reach was_sound n k less d owns

pub returns-clause-unchanged : goal.returns-clause-unchanged
returns-clause-unchanged c = unchanged
