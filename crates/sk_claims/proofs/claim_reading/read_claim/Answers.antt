use Rattle.std.proofs.Common.{sym, subst}
use Rattle.std.proofs.lemmas.Result.{err_from_is_err_and}
use Rattle.sk_lines.specs.LineCodes.{LeadTo, IsLineRefusal}
use Rattle.sk_lines.specs.Lines.{lines_in}
use Rattle.sk_claims.specs.declared.claim_line.SoFar.{SoFar}
use Rattle.sk_claims.specs.ClaimLines.{code_of}
use Rattle.sk_claims.specs.ClaimReading.{IsClaimRefusal, Adds}
use Rattle.sk_claims.proofs.ClaimSoFar.{read_refused, read_unended, read_ended}
use Rattle.sk_claims.proofs.FittingClaims.{read_claim_fits, read_claim_tells}
use Rattle.sk_claims.proofs.claim_reading.read_claim.Goals as goal

pub returns-in_err-so_far-clause-refuses : goal.returns-in_err-so_far-clause-refuses
returns-in_err-so_far-clause-refuses c =
    let s = c.args.s.now in
    let error = c.in_err-so_far.field-0.0 in
    let refused = subst (λ (start : SoFar). IsLineRefusal (code_of s) (Adds s) start c.args.first (lines_in c.args.bytes.now) error) c.nothing_yet.ensures c.in_err-so_far.ensures.refused in
    let found = err_from_is_err_and c.from_residual.result c.from_residual.ensures.1 in
    rw found.1 (subst (IsClaimRefusal s c.args.first c.args.bytes.now) (sym found.2) (read_refused s c.args.first c.args.bytes.now error refused))

pub returns-in-None-clause-refuses : goal.returns-in-None-clause-refuses
returns-in-None-clause-refuses c =
    let s = c.args.s.now in
    let so_far = c.in_ok-so_far.so_far in
    let led = subst (λ (start : SoFar). LeadTo (Adds s) start (lines_in c.args.bytes.now) so_far) c.nothing_yet.ensures c.in_ok-so_far.ensures.read in
    rw c.refused.ensures (read_unended s c.args.bytes.now so_far c.args.first c.in_ok-so_far.number led c.in_ok-so_far.ensures.count c.in-None.is)

pub returns-in-Some-clause-reads : goal.returns-in-Some-clause-reads
returns-in-Some-clause-reads c =
    let s = c.args.s.now in
    let so_far = c.in_ok-so_far.so_far in
    let led = subst (λ (start : SoFar). LeadTo (Adds s) start (lines_in c.args.bytes.now) so_far) c.nothing_yet.ensures c.in_ok-so_far.ensures.read in
    read_ended s c.args.bytes.now so_far c.in-Some.tolerances led c.in-Some.is

pub returns-in-Some-clause-fits : goal.returns-in-Some-clause-fits
returns-in-Some-clause-fits c = read_claim_fits c.args.s.now c.args.bytes.now _ (returns-in-Some-clause-reads c)

pub returns-in-Some-clause-circles : goal.returns-in-Some-clause-circles
returns-in-Some-clause-circles c = λ sound. read_claim_tells c.args.s.now c.args.bytes.now _ sound (returns-in-Some-clause-reads c)
