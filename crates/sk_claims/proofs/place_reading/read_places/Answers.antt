use Rattle.std.proofs.Common.{◌≡◌, List, [], sym, subst}
use Rattle.std.proofs.lemmas.Result.{err_from_is_err_and}
use Rattle.sk_lines.specs.LineCodes.{LeadTo, IsLineRefusal}
use Rattle.sk_lines.specs.Lines.{lines_in}
use Rattle.sk_tree.specs.declared.PlanStep.{PlanStep}
use Rattle.sk_claims.specs.declared.claim_line.SoFar.{SoFar}
use Rattle.sk_claims.specs.PlaceLines.{among, code_of}
use Rattle.sk_claims.specs.PlaceReading.{IsPlacesRefusal, Adds, ReadsPlaces}
use Rattle.sk_claims.proofs.ReadPlaces.{read_refused, read_unended, read_ended}
use Rattle.sk_claims.proofs.FittingPlaces.{read_places_fit, read_places_tell}
use Rattle.sk_claims.proofs.place_reading.read_places.Goals as goal

pub returns-in_err-so_far-clause-refuses : goal.returns-in_err-so_far-clause-refuses
returns-in_err-so_far-clause-refuses c =
    let s = c.args.s.now in
    let error = c.in_err-so_far.field-0.0 in
    let refused = subst (λ (start : SoFar). IsLineRefusal (code_of s) (Adds s) (among start) c.args.first (lines_in c.args.bytes.now) error) c.nothing_yet.ensures c.in_err-so_far.ensures.refused in
    let found = err_from_is_err_and c.from_residual.result c.from_residual.ensures.1 in
    rw found.1 (subst (IsPlacesRefusal s c.args.first c.args.bytes.now) (sym found.2) (read_refused s c.args.first c.args.bytes.now error refused))

pub returns-in-Among-clause-refuses : goal.returns-in-Among-clause-refuses
returns-in-Among-clause-refuses c =
    let s = c.args.s.now in
    let so_far = c.in_ok-so_far.so_far in
    let led = subst (λ (start : SoFar). LeadTo (Adds s) (among start) (lines_in c.args.bytes.now) so_far) c.nothing_yet.ensures c.in_ok-so_far.ensures.read in
    rw c.refused.ensures (read_unended s c.args.bytes.now so_far c.args.first c.in_ok-so_far.number led c.in_ok-so_far.ensures.count c.in-Among.is)

pub returns-in-Past-clause-reads : goal.returns-in-Past-clause-reads
returns-in-Past-clause-reads c =
    let s = c.args.s.now in
    let so_far = c.in_ok-so_far.so_far in
    let led = subst (λ (start : SoFar). LeadTo (Adds s) (among start) (lines_in c.args.bytes.now) so_far) c.nothing_yet.ensures c.in_ok-so_far.ensures.read in
    let none : [] ≡ c.new.result = sym c.new.ensures in
    subst (λ (steps : List PlanStep). ReadsPlaces s c.args.bytes.now (record { steps = steps; at = so_far.claim.at; radii = so_far.claim.radii; t = 0; w = 0 })) none
    (read_ended s c.args.bytes.now so_far led c.in-Past.is)

pub returns-in-Past-clause-fits : goal.returns-in-Past-clause-fits
returns-in-Past-clause-fits c = read_places_fit c.args.s.now c.args.bytes.now _ (returns-in-Past-clause-reads c)

pub returns-in-Past-clause-circles : goal.returns-in-Past-clause-circles
returns-in-Past-clause-circles c = λ sound. read_places_tell c.args.s.now c.args.bytes.now _ sound (returns-in-Past-clause-reads c)
