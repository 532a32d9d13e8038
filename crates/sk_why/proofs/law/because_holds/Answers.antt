use Rattle.sk_why.proofs.Laws.{of_because, enough, minimal}
use Rattle.sk_why.proofs.law.because_holds.Goals as goal

pub returns-clause-enough : goal.returns-clause-enough
returns-clause-enough c g xs because sound together are = enough g sound xs because are together

pub returns-clause-minimal : goal.returns-clause-minimal
returns-clause-minimal c g xs because k sound are k_in = minimal g sound xs because are k k_in

pub returns-clause-constraints : goal.returns-clause-constraints
returns-clause-constraints c g xs because k are k_in = (of_because g xs because are k k_in).0
