use Rattle.sk_solve.proofs.Untouched.{untouched_signs}
use Rattle.sk_solve.proofs.law.untouched_plan_is_drawn.Goals as goal

pub returns : goal.returns
returns c s at p sound legal drawn = untouched_signs s at p sound legal drawn
