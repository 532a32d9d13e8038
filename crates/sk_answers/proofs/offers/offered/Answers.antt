use Rattle.std.proofs.Common.{◌-◌, ◌+◌, ◌<◌, ℕ, List, sym, subst, length, take, drop, arith}
use Rattle.std.specs.Prelude.{All}
use Rattle.sk_answers.specs.OffersReport.{IsReportOnOffers}
use Rattle.sk_lines.specs.Lines.{lines_in}
use Rattle.sk_offers.specs.OfferLines.{FitsBoard}
use Rattle.sk_offers.specs.OfferReading.{ReadsOffers}
use Rattle.sk_offers.specs.declared.OfferLine.{OfferLine}
use Rattle.sk_answers.proofs.Behind.{rest_of}
use Rattle.sk_offers.proofs.FittingOffers.{read_fit}
use Rattle.sk_answers.proofs.offers.offered.Goals as goal

pub read_offers-requires : goal.read_offers-requires
read_offers-requires c =
    subst (λ (rest : List ℕ). c.in-Ok.front.lines + length (lines_in rest) < 4294967295) (sym (rest_of c.in-Ok.front.used c.args.bytes.now))
    (let few = c.in-Ok.ensures.lines in let fits = c.in-Ok.ensures.reads.fits in omega (arith, few, fits))

pub report-requires-clause-fit : goal.report-requires-clause-fit
report-requires-clause-fit c =
    subst (λ (os : List OfferLine). All (λ o. FitsBoard o) os) (sym c.as_slice.ensures)
    (read_fit (take (length c.args.bytes.now - c.in-Ok.front.used) (drop c.in-Ok.front.used c.args.bytes.now)) c.in-Ok-read_offers.offers c.in-Ok-read_offers.ensures.reads)

pub returns-in-Ok-read_offers : goal.returns-in-Ok-read_offers
returns-in-Ok-read_offers c = (
  c.in-Ok.front,
  c.in-Ok-read_offers.offers,
  c.in-Ok.ensures.reads,
  subst (λ (rest : List ℕ). ReadsOffers rest c.in-Ok-read_offers.offers) (rest_of c.in-Ok.front.used c.args.bytes.now) c.in-Ok-read_offers.ensures.reads,
  subst (λ (os : List OfferLine). IsReportOnOffers c.in-Ok.front.sketch os c.in_ok-report-in-Ok-read_offers.field-0) c.as_slice.ensures c.in_ok-report-in-Ok-read_offers.ensures,
)
