use Rattle.sk_solve.proofs.Differing.{other_signs}
use Rattle.sk_solve.proofs.law.alternatives_differ.Goals as goal

pub returns : goal.returns
returns g c placing F limit s p names others at there tol beside sound legal here_is there_is n n_in n_out = other_signs s p _ placing F limit names others at there tol beside sound legal here_is there_is n n_in n_out
