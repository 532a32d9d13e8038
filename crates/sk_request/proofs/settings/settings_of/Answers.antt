use Rattle.std.proofs.Common.{sym, subst, take, drop, ◌+◌}
use Rattle.std.specs.Prelude.{map, string_bytes}
use Rattle.sk_request.specs.Asking.{HasKeys}
use Rattle.sk_request.specs.Settings.{AreSet}
use Rattle.sk_request.proofs.Keys.{set_step, no_request, mapped_more, mapped_parts, if_none}
use Rattle.sk_request.proofs.settings.settings_of.Goals as goal

pub returns-in_err-settings-clause-none : goal.returns-in_err-settings-clause-none
returns-in_err-settings-clause-none c =
    if_none c.from_residual.result _ (λ request is keys.
    no_request c.args.command (map string_bytes (take c.loop-word.word-index c.args.words.now)) (string_bytes c.word-item.result) (map string_bytes (drop (c.loop-word.word-index + 1) c.args.words.now)) c.loop-word.settings c.loop-word.invariant
    (λ after adds. c.in_err-settings.ensures.none after (rw c.as_str.ensures.value adds)) request is
    (subst (λ words. HasKeys words request) (mapped_parts string_bytes c.args.words.now c.loop-word.word-index c.word-item.result c.loop-word-test.true c.word-item.is) keys))

pub loop-word-preserved : goal.loop-word-preserved
loop-word-preserved c =
    subst (λ words. AreSet c.args.command words c.in_ok-settings.settings) (sym (mapped_more string_bytes c.args.words.now c.loop-word.word-index c.word-item.result c.loop-word-test.true c.word-item.is))
    (set_step c.args.command (map string_bytes (take c.loop-word.word-index c.args.words.now)) (string_bytes c.word-item.result) c.loop-word.settings c.in_ok-settings.settings c.loop-word.invariant
    (rw c.as_str.ensures.value at c.in_ok-settings.ensures.some))
