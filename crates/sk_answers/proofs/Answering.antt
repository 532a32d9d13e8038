-- Offers that are answered one after another.
use Rattle.std.proofs.Common.{◌≡◌, ℕ, List, [], ◌∷◌, ◌++◌, refl, ap, sym, subst, ◌∙◌, append_assoc}
use Rattle.std.proofs.lemmas.List.{append-nil}
use Rattle.sk_offers.specs.declared.Answer.{Answer}
use Rattle.sk_offers.specs.declared.Answer.TheVariants.{Taken, Stale, Idle}
use Rattle.sk_offers.specs.Offering.{Table, IsAnswer, Follows}
use Rattle.sk_report.specs.AnswerLine.{answer_line}
use Rattle.sk_offers.specs.declared.OfferLine.{OfferLine}
use Rattle.sk_answers.specs.OffersReport.{AreAnswered}

-- one more offer behind those that are answered
pub answered_more : (t : Table) (os : List OfferLine) (mid : Table) (text : List ℕ) → AreAnswered t os mid text
    → (o : OfferLine) (a : Answer) (next : Table) → IsAnswer mid.graph mid.family o.merge a → Follows mid o.merge a next
    → AreAnswered t (os ++ o ∷ []) next (text ++ answer_line o.worker a)
answered_more t [] mid text (mid_is, text_is) o a next answer follows = (
  a,
  next,
  [],
  subst (λ (z : Table). IsAnswer z.graph z.family o.merge a) mid_is answer,
  subst (λ (z : Table). Follows z o.merge a next) mid_is follows,
  (refl, refl),
  ap (λ front. front ++ answer_line o.worker a) text_is ∙ sym (append-nil (answer_line o.worker a)),
)
answered_more t (p ∷ os) mid text (b, then, rest, answer_p, follows_p, more, text_is) o a next answer follows = (
  b,
  then,
  rest ++ answer_line o.worker a,
  answer_p,
  follows_p,
  answered_more then os mid rest more o a next answer follows,
  ap (λ front. front ++ answer_line o.worker a) text_is ∙ append_assoc (answer_line p.worker b) rest (answer_line o.worker a),
)

-- no answer changes the graph of the board
pub answered_graph : (t : Table) (os : List OfferLine) (end : Table) (text : List ℕ) → AreAnswered t os end text → end.graph ≡ t.graph
answered_graph t [] end text (end_is, text_is) = ap (λ (z : Table). z.graph) end_is
answered_graph t (o ∷ os) end text (a, next, rest, answer, follows, more, text_is) = answered_graph next os end rest more ∙ kept a follows
  where
    kept : (a : Answer) → Follows t o.merge a next → next.graph ≡ t.graph
    kept (Taken n) takes = ap (λ (z : Table). z.graph) takes.table
    kept (Stale n) same = ap (λ (z : Table). z.graph) same
    kept Idle same = ap (λ (z : Table). z.graph) same
