use Rattle.sk_lines.specs.declared.Version.TheVariants.{Two}
use Rattle.sk_session.proofs.ToSolve.{solve_has_some}
use Rattle.sk_session.proofs.law.some_to_solve.Goals as goal

pub returns : goal.returns
returns c = solve_has_some (c.what_a_line_says.ensures.stands_on Two)
