use Rattle.sk_verify.proofs.Claimed.{legal, drawn, placed, holds}
use Rattle.sk_verify.proofs.law.accepted.Goals as goal

pub returns-clause-legal : goal.returns-clause-legal
returns-clause-legal c = legal

pub returns-clause-drawn : goal.returns-clause-drawn
returns-clause-drawn c = drawn

pub returns-clause-placed : goal.returns-clause-placed
returns-clause-placed c = λ s g claim same sound fits is. placed s g claim is same sound fits

pub returns-clause-holds : goal.returns-clause-holds
returns-clause-holds c = λ s g claim rise apart is. holds s g claim is rise apart
