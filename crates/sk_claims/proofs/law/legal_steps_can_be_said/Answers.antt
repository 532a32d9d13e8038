use Rattle.sk_claims.proofs.SaidSteps.{said_steps}
use Rattle.sk_claims.proofs.law.legal_steps_can_be_said.Goals as goal

pub returns : goal.returns
returns c = said_steps
