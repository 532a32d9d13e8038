use Rattle.sk_request.proofs.OneRequest.{same_request}
use Rattle.sk_request.proofs.law.one_request.Goals as goal

pub returns : goal.returns
returns c = same_request
