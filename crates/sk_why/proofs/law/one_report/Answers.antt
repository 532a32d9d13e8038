use Rattle.sk_why.proofs.ReasonsTold.{some_report, one_report}
use Rattle.sk_why.proofs.law.one_report.Goals as goal

pub returns-clause-some : goal.returns-clause-some
returns-clause-some c s sound some = some_report s sound

pub returns-clause-one : goal.returns-clause-one
returns-clause-one c s one other sound first second = one_report s sound one other first second
