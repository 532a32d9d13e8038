use Rattle.sk_verdict.proofs.Judgements.{same_judgement}
use Rattle.sk_verdict.proofs.law.one_judgement.Goals as goal

pub returns : goal.returns
returns c = same_judgement
