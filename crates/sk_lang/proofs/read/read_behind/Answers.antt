use Rattle.std.proofs.Common.{◌≡◌, ◌+◌, ◌-◌, ℕ, List, [], length, drop, ap, subst, arith, length-drop}
use Rattle.std.proofs.lemmas.Bool.Decides.{nat_tests}
use Rattle.std.proofs.lemmas.List.{nil_from_length, take_all}
use Rattle.sk_lang.specs.declared.progress.Progress.{Progress}
use Rattle.sk_lang.specs.declared.progress.Progress.TheVariants.{After}
use Rattle.sk_lang.specs.Progress.{progress_after, progress_after_words}
use Rattle.sk_lang.proofs.ReadErrors.{refusal_at}
use Rattle.sk_lang.proofs.Standing.{StandsAt, stands_next, stands_behind, reads_here}
use Rattle.sk_lang.proofs.read.read_behind.Goals as goal

pub loop-rest-init : goal.loop-rest-init
loop-rest-init c =
    let bytes = c.args.bytes.now in
    let used = c.args.opened.front.used in
    let behind = take_all (length bytes - used) (drop used bytes) (omega (arith, length-drop used bytes)) in
    let few = c.requires.few in
    let within = c.requires.front.within in
    record {
      at = stands_behind bytes _ c.args.opened.version c.args.opened.front c.requires.front c.requires.version behind;
      numbered = rw behind (omega (arith, length-drop used bytes));
    }

pub loop-rest-preserved : goal.loop-rest-preserved
loop-rest-preserved c =
    let at = c.loop-rest.invariant in
    let progress = After c.args.opened.version c.args.opened.front.sketch in
    let line = c.split_line.result.0.now in
    let next = stands_next c.args.bytes.now c.loop-rest.rest.now line c.split_line.result.1.now progress c.loop-rest.number at.at (grind (arith, nat_tests)) c.split_line.ensures.first (c.in-Ok.ensures.clean c.args.opened.front.sketch) in
    let stays : progress_after progress line ≡ progress = ap (progress_after_words progress) c.in-Ok.ensures.blank in
    record {
      at = subst (λ (p : Progress). StandsAt c.args.bytes.now c.split_line.result.1.now p (c.loop-rest.number + 1)) stays next;
      numbered = omega (arith, at.numbered);
    }

pub returns-in-Err-clause-refuses : goal.returns-in-Err-clause-refuses
returns-in-Err-clause-refuses c =
    let at = c.loop-rest.invariant in
    let fits = c.requires.front.fits in
    rw c.at_line.ensures (refusal_at c.args.bytes.now c.loop-rest.rest.now c.split_line.result.0.now c.split_line.result.1.now (After c.args.opened.version c.args.opened.front.sketch) c.loop-rest.number c.in-Err.error
    fits at.at (grind (arith, nat_tests)) c.split_line.ensures.first (c.in-Err.ensures.refused c.args.opened.front.sketch))

pub returns-clause-reads : goal.returns-clause-reads
returns-clause-reads c =
    let at = c.loop-rest.invariant in
    let none : c.loop-rest.rest.now ≡ [] = nil_from_length c.loop-rest.rest.now (grind (arith, nat_tests)) in
    let whole : StandsAt c.args.bytes.now [] (After c.args.opened.version c.args.opened.front.sketch) c.loop-rest.number = subst (λ (rest : List ℕ). StandsAt c.args.bytes.now rest (After c.args.opened.version c.args.opened.front.sketch) c.loop-rest.number) none at.at in
    reads_here c.args.bytes.now c.args.opened.version c.args.opened.front.sketch c.loop-rest.number c.requires.front.fits whole
