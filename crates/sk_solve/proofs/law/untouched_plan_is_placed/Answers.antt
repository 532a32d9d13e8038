use Rattle.sk_solve.proofs.Untouched.{untouched_signs, placed_untouched}
use Rattle.sk_solve.proofs.law.untouched_plan_is_placed.Goals as goal

pub returns : goal.returns
returns g c placing F limit s p placement sound legal drawn is = placed_untouched _ placing F limit s p (λ at. untouched_signs s at p sound legal drawn) placement is
