use Rattle.std.proofs.Common.{◌≡◌, ℕ, List, sym, subst}
use Rattle.std.proofs.lemmas.Result.{IfOk-weaker}
use Rattle.sk_lang.specs.Canonical.{canonical_2}
use Rattle.sk_lang.specs.Reading.{Reads}
use Rattle.sk_lang.specs.Renumbered.{renumbered}
use Rattle.sk_lang.proofs.WrittenBack.{reads_canonical_2}
use Rattle.sk_lang.proofs.write.write_sketch_2.Goals as goal

pub returns-clause-reads_back : goal.returns-clause-reads_back
returns-clause-reads_back c = λ sound some.
    let s = c.args.s.now in
    let written : (text : List ℕ) → text ≡ canonical_2 s → Reads text (renumbered s) =
    λ text is. subst (λ (t : List ℕ). Reads t (renumbered s)) (sym is) (reads_canonical_2 s sound some) in
    IfOk-weaker c.write_under.result (λ text. text ≡ canonical_2 s) (λ text. Reads text (renumbered s)) written c.write_under.ensures
