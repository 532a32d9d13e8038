use Rattle.sk_live_lines.specs.declared.ending.TurnEnd.TheVariants.{WriteFault}
use Rattle.sk_live_lines.proofs.TurnEnds.{unless_failed}
use Rattle.sk_live_lines.proofs.hearing.answer.Goals as goal

pub returns-clause-unheld : goal.returns-clause-unheld
returns-clause-unheld g c other flushed = unless_failed c.hand_over.result WriteFault _ _ c.hand_over.ensures.err c.hand_over.ensures.flushed other
