use Rattle.std.proofs.Common.{take}
use Rattle.sk_answers.specs.OffersReport.{AreAnswered}
use Rattle.sk_answers.proofs.offers.answers.Given as goal

abbrev pub invariant-loop-offer : goal.invariant-loop-offer
invariant-loop-offer l = AreAnswered l.fn.board (take l.offer-index l.offers) l.board l.text
