use Rattle.std.proofs.Common.{◌≡◌, ℕ, List, [], ◌∷◌, ◌++◌, get_or, take, ap, sym, subst, ◌∙◌}
use Rattle.std.proofs.lemmas.List.{take_more}
use Rattle.sk_base.specs.declared.Name.TheVariants.{Con}
use Rattle.sk_family.specs.declared.Merge.TheVariants.{Two}
use Rattle.sk_report.specs.AnswerLine.{answer_line}
use Rattle.sk_offers.specs.declared.OfferLine.{OfferLine}
use Rattle.sk_answers.specs.OffersReport.{AreAnswered}
use Rattle.sk_answers.proofs.Answering.{answered_more}
use Rattle.sk_answers.proofs.offers.answers.Goals as goal

pub loop-offer-preserved : goal.loop-offer-preserved
loop-offer-preserved c =
    let os = c.args.offers.now in
    let i = c.loop-offer.offer-index in
    let d : OfferLine = record { worker = 0; merge = Two (Con 0) (Con 0) } in
    let o : OfferLine = get_or os i d in
    let line : c.put.new.self ≡ c.loop-offer.text ++ answer_line o.worker c.in_ok-answer.answer =
    c.in_ok-put.ensures.ok ∙ ap (λ bytes. c.loop-offer.text ++ bytes) (c.as_bytes.ensures ∙ c.in_ok-answer_text.ensures) in
    subst (λ (front : List OfferLine). AreAnswered c.args.board.now front c.offer.new.self c.put.new.self) (sym (take_more os i d c.loop-offer-test.true))
    (subst (λ (text : List ℕ). AreAnswered c.args.board.now (take i os ++ o ∷ []) c.offer.new.self text) (sym line)
    (answered_more c.args.board.now (take i os) c.loop-offer.board c.loop-offer.text c.loop-offer.invariant o c.in_ok-answer.answer c.offer.new.self
    c.in_ok-answer.ensures.answer c.in_ok-answer.ensures.follows))
