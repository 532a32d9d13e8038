use Rattle.sk_solve.proofs.FinerLaid.{out_of_range}
use Rattle.sk_solve.proofs.law.uncarried_is_out_of_range.Goals as goal

pub returns : goal.returns
returns g c frame wanted F limit s p f is = out_of_range _ F s p frame f is
