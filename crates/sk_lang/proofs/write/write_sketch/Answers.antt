use Rattle.std.proofs.Common.{◌≡◌, ℕ, List, ap, sym, ◌∙◌, subst}
use Rattle.std.proofs.lemmas.Result.{IfOk-weaker}
use Rattle.sk_lines.specs.declared.Version.{Version}
use Rattle.sk_lang.specs.Canonical.{text_under}
use Rattle.sk_lang.specs.Reading.{Reads}
use Rattle.sk_lang.specs.Renumbered.{renumbered}
use Rattle.sk_lang.proofs.WrittenBack.{reads_canonical}
use Rattle.sk_lang.proofs.write.write_sketch.Goals as goal

pub returns-clause-reads_back : goal.returns-clause-reads_back
returns-clause-reads_back c = λ sound some.
    let s = c.args.s.now in
    let written : (text : List ℕ) → text ≡ text_under c.version_for.result s → Reads text (renumbered s) =
    λ text is. subst (λ (t : List ℕ). Reads t (renumbered s)) (sym (is ∙ ap (λ (v : Version). text_under v s) c.version_for.ensures)) (reads_canonical s sound some) in
    IfOk-weaker c.write_under.result (λ text. text ≡ text_under c.version_for.result s) (λ text. Reads text (renumbered s)) written c.write_under.ensures
