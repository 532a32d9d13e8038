use Rattle.std.proofs.Common.{subst}
use Rattle.sk_request.specs.declared.Command.{Command}
use Rattle.sk_cli.specs.Outcome.{IsAnswerOf}
use Rattle.sk_laws.proofs.LeftOnce.{once_left}
use Rattle.sk_laws.proofs.KeptSolved.{as_kept, answer_fits, part_weighs}
use Rattle.sk_laws.proofs.OneShape.{shape_as_solved, one_shape}
use Rattle.sk_laws.proofs.PrintedClaims.{limit_small}
use Rattle.sk_laws.proofs.WhyEnds.{answer_about}
use Rattle.sk_laws.proofs.law.shapes_are_as_solved.Goals as goal

pub returns-clause-shape : goal.returns-clause-shape
returns-clause-shape c = shape_as_solved

pub returns-clause-well : goal.returns-clause-well
returns-clause-well c request s text sound some well report = one_shape request s sound some well text report

pub returns-clause-kept : goal.returns-clause-kept
returns-clause-kept c = as_kept

pub returns-clause-fit : goal.returns-clause-fit
returns-clause-fit c words bytes text status request s outcome asks is reads =
    answer_fits c.one_answer.ensures.one_sketch c.one_answer.ensures.not_both request (limit_small words request asks) bytes status text s (c.readable_is_sound.ensures.sound bytes s reads) reads
    (subst (λ (command : Command). IsAnswerOf command request bytes status text) is (answer_about words bytes text status request outcome asks))

pub returns-clause-once : goal.returns-clause-once
returns-clause-once c s j p q of_p of_q k sound judged p_in q_in are other k_of_p k_of_q = once_left s sound j judged p q p_in q_in of_p of_q are other k k_of_p k_of_q

pub returns-clause-weighs : goal.returns-clause-weighs
returns-clause-weighs c s j p left sound judged p_in = part_weighs s sound j judged p p_in left
