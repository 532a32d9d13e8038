use Rattle.sk_verify.proofs.Answering.{not_both, one_failure}
use Rattle.sk_verify.proofs.SomeFailures.{accepted_or_failing}
use Rattle.sk_verify.proofs.law.one_answer.Goals as goal

pub returns-clause-some : goal.returns-clause-some
returns-clause-some c = λ s g claim is sound fits. accepted_or_failing s g is sound claim fits

pub returns-clause-not_both : goal.returns-clause-not_both
returns-clause-not_both c = not_both

pub returns-clause-one_failure : goal.returns-clause-one_failure
returns-clause-one_failure c = one_failure
