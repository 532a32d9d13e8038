use Rattle.std.proofs.Common.{[], ◌∷◌, refl}
use Rattle.sk_claims.specs.declared.first_word.Figure.TheVariants as figure
use Rattle.sk_claims.proofs.StepWords.{refused_name, stopped}
use Rattle.sk_claims.proofs.element_line.line_said.Goals as goal

pub returns-in_err-elem : goal.returns-in_err-elem
returns-in_err-elem c =
    refused_name c.args.s.now c.args.placed.now figure.Line c.args.name.now (c.args.a.now ∷ c.args.b.now ∷ c.args.c.now ∷ []) _ c.from_residual.result c.in_err-elem.field-0.0 c.from_residual.ensures refl (stopped _ _ _ c.in_err-elem.ensures)
