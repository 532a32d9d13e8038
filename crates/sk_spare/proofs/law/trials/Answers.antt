use Rattle.sk_spare.proofs.LeavingOut.{one_is_left, others_stay, trial_decides, spare_is_over, in_whichever}
use Rattle.sk_spare.proofs.law.trials.Goals as goal

pub returns-clause-some : goal.returns-clause-some
returns-clause-some c g f n k x sound own normal = one_is_left g f n k x sound own normal

pub returns-clause-each : goal.returns-clause-each
returns-clause-each c g f n m k x sound own normal small = others_stay g f n k x sound own normal m small

pub returns-clause-decides : goal.returns-clause-decides
returns-clause-decides c g f n k x sound own normal = trial_decides g f n k x sound own normal

pub returns-clause-over : goal.returns-clause-over
returns-clause-over c = spare_is_over

pub returns-clause-whichever : goal.returns-clause-whichever
returns-clause-whichever c = in_whichever
