use Rattle.sk_verify.proofs.Accepting.{accepted_so}
use Rattle.sk_verify.proofs.law.accepted_so.Goals as goal

pub returns : goal.returns
returns c = accepted_so
