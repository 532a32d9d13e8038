use Rattle.sk_complete.proofs.Weighing.{well_weighs, missing_weight}
use Rattle.sk_complete.proofs.law.exact_weight.Goals as goal

pub returns-clause-due : goal.returns-clause-due
returns-clause-due c = well_weighs

pub returns-clause-missing : goal.returns-clause-missing
returns-clause-missing c s t among sound some well = missing_weight s t among sound some well
