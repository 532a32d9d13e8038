use Rattle.sk_solve.proofs.OnePlacement.{same_alternative}
use Rattle.sk_solve.proofs.law.one_alternative.Goals as goal

pub returns : goal.returns
returns g c placing F limit s p names a b legal tree first second = same_alternative _ placing F limit s p names legal tree a b first second
