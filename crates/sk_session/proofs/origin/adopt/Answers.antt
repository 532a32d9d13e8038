use Rattle.std.proofs.Common.{subst}
use Rattle.sk_family.specs.Starts.{IsFree}
use Rattle.sk_session.specs.declared.origin.Origin.{Origin}
use Rattle.sk_session.specs.Origins.{origin_start}
use Rattle.sk_session.proofs.origin.adopt.Goals as goal

pub adopt-requires-clause-free : goal.adopt-requires-clause-free
adopt-requires-clause-free c = subst (λ (o : Origin). IsFree c.args.family.now (origin_start o).number) c.in-Edge.is c.requires.free

pub adopt_block-requires-clause-free : goal.adopt_block-requires-clause-free
adopt_block-requires-clause-free c = subst (λ (o : Origin). IsFree c.args.family.now (origin_start o).number) c.in-Block.is c.requires.free
