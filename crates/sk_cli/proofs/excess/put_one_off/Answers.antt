use Rattle.std.proofs.Common.{◌==◌, sym}
use Rattle.sk_base.specs.declared.Constraint.{Constraint}
use Rattle.sk_base.proofs.Finding.{found_in}
use Rattle.sk_base.proofs.Searches.{on_ok}
use Rattle.sk_answers.proofs.OffLines.{off_there}
use Rattle.sk_cli.proofs.excess.put_one_off.Goals as goal

pub off-by-requires-clause-constraint : goal.off-by-requires-clause-constraint
off-by-requires-clause-constraint c = (found_in (λ (x : Constraint). x.number.0 == c.args.number.0) c.args.own.now.constraints c.in-Some.constraint.now (sym c.in-Some.ensures)).0

pub returns : goal.returns
returns c =
    on_ok c.put_off.result c.put_off.ensures
    (λ is. (c.off-by.result, off_there c.args.at.now c.args.own.now c.args.graph.now c.args.number c.in-Some.constraint.now c.off-by.result c.requires.graph (sym c.in-Some.ensures) c.off-by.ensures.off c.off-by.ensures.turned, is))
