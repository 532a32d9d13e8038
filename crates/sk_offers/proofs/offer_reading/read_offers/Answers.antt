use Rattle.std.proofs.Common.{List, sym, subst}
use Rattle.std.proofs.lemmas.Result.{err_from_is_err_and}
use Rattle.sk_lines.specs.LineCodes.{LeadTo, IsLineRefusal}
use Rattle.sk_lines.specs.Lines.{lines_in}
use Rattle.sk_offers.specs.OfferReading.{IsOfferRefusal, Adds}
use Rattle.sk_offers.specs.declared.offer_line.OfferLine.{OfferLine}
use Rattle.sk_offers.proofs.OffersSoFar.{among, code_behind_all, read_refused, read_unended, read_ended}
use Rattle.sk_offers.proofs.offer_reading.read_offers.Goals as goal

pub returns-in_err-so_far-clause-refuses : goal.returns-in_err-so_far-clause-refuses
returns-in_err-so_far-clause-refuses c =
    let error = c.in_err-so_far.field-0.0 in
    let refused = subst (λ (offers : List OfferLine). IsLineRefusal code_behind_all Adds (among offers) c.args.first (lines_in c.args.bytes.now) error) c.new.ensures c.in_err-so_far.ensures.refused in
    let found = err_from_is_err_and c.from_residual.result c.from_residual.ensures.1 in
    rw found.1 (subst (IsOfferRefusal c.args.first c.args.bytes.now) (sym found.2) (read_refused c.args.first c.args.bytes.now error refused))

pub returns-in-Among-clause-refuses : goal.returns-in-Among-clause-refuses
returns-in-Among-clause-refuses c =
    let so_far = c.in_ok-so_far.so_far in
    let led = subst (λ (offers : List OfferLine). LeadTo Adds (among offers) (lines_in c.args.bytes.now) so_far) c.new.ensures c.in_ok-so_far.ensures.read in
    rw c.refused.ensures (read_unended c.args.bytes.now so_far c.args.first c.in_ok-so_far.number led c.in_ok-so_far.ensures.count c.in-Among.is)

pub returns-in-Past-clause-reads : goal.returns-in-Past-clause-reads
returns-in-Past-clause-reads c =
    let so_far = c.in_ok-so_far.so_far in
    let led = subst (λ (offers : List OfferLine). LeadTo Adds (among offers) (lines_in c.args.bytes.now) so_far) c.new.ensures c.in_ok-so_far.ensures.read in
    read_ended c.args.bytes.now so_far led c.in-Past.is
