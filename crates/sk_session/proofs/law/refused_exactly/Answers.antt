use Rattle.sk_session.proofs.Exactly.{refused_exactly}
use Rattle.sk_session.proofs.law.refused_exactly.Goals as goal

pub returns : goal.returns
returns c = refused_exactly
