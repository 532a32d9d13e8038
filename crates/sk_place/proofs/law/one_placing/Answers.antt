use Rattle.sk_place.proofs.OnePlacing.{one_list, one_failure, not_both}
use Rattle.sk_place.proofs.law.one_placing.Goals as goal

pub returns-clause-boxes : goal.returns-clause-boxes
returns-clause-boxes g c = one_list _

pub returns-clause-faults : goal.returns-clause-faults
returns-clause-faults g c = one_failure _

pub returns-clause-not_both : goal.returns-clause-not_both
returns-clause-not_both g c = not_both _
