use Rattle.std.proofs.Common.{◌≡◌, ◌∷◌, [], ℕ, List, map, drop, length, get_or, sym, ap, arith}
use Rattle.std.proofs.lemmas.List.{length-map}
use Rattle.sk_lines.specs.Words.{bytes_of}
use Rattle.sk_base.proofs.Rests.{rest_two}
use Rattle.sk_edits.proofs.reading.read_change.Goals as goal

rest_one : (ws : List (List ℕ)) (a : List ℕ) → length ws ≡ 2 → a ≡ get_or ws 1 [] → drop 1 ws ≡ a ∷ []
rest_one [] a size is = absurd (omega arith)
rest_one (w ∷ []) a size is = absurd (omega arith)
rest_one (w ∷ b ∷ []) a size is = ap (λ x. x ∷ []) (sym is)
rest_one (w ∷ b ∷ d ∷ more) a size is = absurd (omega arith)

pub returns-else-count-ne2-clause-made : goal.returns-else-count-ne2-clause-made
returns-else-count-ne2-clause-made c =
    let ws = map (bytes_of c.args.line.now) c.args.words.now in
    let same : length ws ≡ length c.args.words.now = rw length-map in
    let rest = rest_two [] ws c.word-in-Set.result.now c.word-in-Set-2.result.now (omega arith) c.word-in-Set.ensures c.word-in-Set-2.ensures in
    rw (rest, c.in-Set.is) c.read_set.ensures.made

pub returns-else-count-ne1-2-clause-made : goal.returns-else-count-ne1-2-clause-made
returns-else-count-ne1-2-clause-made c =
    let ws = map (bytes_of c.args.line.now) c.args.words.now in
    let same : length ws ≡ length c.args.words.now = rw length-map in
    let rest = rest_one ws c.word-in-Erase.result.now (omega arith) c.word-in-Erase.ensures in
    rw (rest, c.in-Erase.is) c.read_erase.ensures.made
