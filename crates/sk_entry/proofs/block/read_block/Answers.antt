use Rattle.sk_lines.specs.declared.Code.TheVariants.{E4}
use Rattle.sk_entry.proofs.Pinned.{refused_by_first}
use Rattle.sk_entry.proofs.block.read_block.Goals as goal

pub returns-in_err-said : goal.returns-in_err-said
returns-in_err-said g c = refused_by_first c.from_residual.result c.in_err-said.field-0.0 _ _ E4 _ c.from_residual.ensures c.in_err-said.ensures
