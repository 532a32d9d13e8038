use Rattle.std.proofs.Common.{◌≡◌, ◌+◌, ℕ, List, [], sym, subst, ◌∙◌, arith, refl}
use Rattle.std.proofs.lemmas.Bool.Decides.{nat_tests}
use Rattle.std.proofs.lemmas.List.{nil_from_length}
use Rattle.sk_lang.specs.declared.progress.Progress.{Progress}
use Rattle.sk_lang.specs.declared.progress.Progress.TheVariants.{After}
use Rattle.sk_lang.specs.Progress.{progress_after}
use Rattle.sk_lang.specs.Reading.{TooLong}
use Rattle.sk_lang.proofs.ReadErrors.{front_refusal_at, front_unended, ended_no_more}
use Rattle.sk_lang.proofs.Standing.{StandsAt, stands_next, front_read_here}
use Rattle.sk_lang.proofs.front.read_front.Goals as goal

pub returns-then-bytes-gt-MOST_BYTES-clause-refuses : goal.returns-then-bytes-gt-MOST_BYTES-clause-refuses
returns-then-bytes-gt-MOST_BYTES-clause-refuses c = rw c.refused.ensures (record { refuses = TooLong (omega arith); before_end = refl })

pub returns-in-Err-clause-refuses : goal.returns-in-Err-clause-refuses
returns-in-Err-clause-refuses c =
    let at = c.loop-rest.invariant in
    rw c.at_line.ensures (front_refusal_at c.args.bytes.now c.loop-rest.rest.now c.split_line.result.0.now c.split_line.result.1.now c.loop-rest.progress c.loop-rest.lines c.in-Err.error
    (omega arith) at.at (omega arith) c.split_line.ensures.first at.unended c.in-Err.ensures.refused)

pub returns-in-After-clause-reads : goal.returns-in-After-clause-reads
returns-in-After-clause-reads c =
    let at = c.loop-rest.invariant in
    let ended : progress_after c.loop-rest.progress c.split_line.result.0.now ≡ After c.in-After.version c.in-After.sketch = sym c.in-Ok.ensures.progress ∙ c.in-After.is in
    (front_read_here c.args.bytes.now c.loop-rest.rest.now c.split_line.result.0.now c.split_line.result.1.now c.loop-rest.progress c.loop-rest.lines _ c.in-After.version c.in-After.sketch
    (omega arith) at.at (omega arith) c.split_line.ensures.first at.unended c.in-Ok.ensures.clean ended (omega (arith, at.numbered))).0

pub returns-in-After-clause-version : goal.returns-in-After-clause-version
returns-in-After-clause-version c =
    let at = c.loop-rest.invariant in
    let ended : progress_after c.loop-rest.progress c.split_line.result.0.now ≡ After c.in-After.version c.in-After.sketch = sym c.in-Ok.ensures.progress ∙ c.in-After.is in
    (front_read_here c.args.bytes.now c.loop-rest.rest.now c.split_line.result.0.now c.split_line.result.1.now c.loop-rest.progress c.loop-rest.lines _ c.in-After.version c.in-After.sketch
    (omega arith) at.at (omega arith) c.split_line.ensures.first at.unended c.in-Ok.ensures.clean ended (omega (arith, at.numbered))).1

pub loop-rest-preserved : goal.loop-rest-preserved
loop-rest-preserved c =
    let at = c.loop-rest.invariant in
    let next = stands_next c.args.bytes.now c.loop-rest.rest.now c.split_line.result.0.now c.split_line.result.1.now c.loop-rest.progress c.loop-rest.lines at.at (omega arith) c.split_line.ensures.first c.in-Ok.ensures.clean in
    record {
      at = subst (λ (p : Progress). StandsAt c.args.bytes.now c.split_line.result.1.now p (c.loop-rest.lines + 1)) (sym c.in-Ok.ensures.progress) next;
      unended = ended_no_more c.in-Ok.further c.in_default.not-After;
      few = omega (arith, c.in-Ok.ensures.size, at.few);
      numbered = omega (arith, at.numbered);
    }

pub returns-clause-refuses : goal.returns-clause-refuses
returns-clause-refuses c =
    let at = c.loop-rest.invariant in
    let none : c.loop-rest.rest.now ≡ [] = nil_from_length c.loop-rest.rest.now (grind (arith, nat_tests)) in
    let whole : StandsAt c.args.bytes.now [] c.loop-rest.progress c.loop-rest.lines = subst (λ (rest : List ℕ). StandsAt c.args.bytes.now rest c.loop-rest.progress c.loop-rest.lines) none at.at in
    rw c.without_end.ensures (front_unended c.args.bytes.now c.loop-rest.progress c.loop-rest.lines (omega arith) whole at.unended)
