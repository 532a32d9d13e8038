use Rattle.sk_verify.proofs.Complete.{told_exactly}
use Rattle.sk_verify.proofs.checking.check_tolerances.Goals as goal

pub first_unmet-requires-clause-placed : goal.first_unmet-requires-clause-placed
first_unmet-requires-clause-placed c = told_exactly c.args.s.now c.args.g.now c.requires.graph c.requires.sound c.args.claim.now c.requires.fits c.requires.complete.told
