use Rattle.sk_lines.specs.declared.Keyword.TheVariants.{Angle}
use Rattle.sk_entry.proofs.Ends.{refused_first}
use Rattle.sk_entry.proofs.constraint.read_angle.Goals as goal

pub returns-in_err-first : goal.returns-in_err-first
returns-in_err-first g c =
    refused_first (g.S.Scope.so_far c.args.s.now) Angle c.args.l.now c.args.m.now _ _ c.from_residual.result c.in_err-first.field-0.0 c.from_residual.ensures c.in_err-first.ensures
