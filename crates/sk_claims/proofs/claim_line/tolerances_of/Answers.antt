use Rattle.std.proofs.Common.{[], ◌≡◌, map, length, refl, arith}
use Rattle.std.proofs.lemmas.List.{length-map}
use Rattle.sk_lines.specs.Words.{bytes_of}
use Rattle.sk_base.proofs.Rests.{rest_two}
use Rattle.sk_claims.proofs.StepWords.{some_said}
use Rattle.sk_claims.proofs.claim_line.tolerances_of.Goals as goal

pub returns : goal.returns
returns c =
    let ws = map (bytes_of c.args.line.now) c.args.words.now in
    let same = length-map c.args.words.now (bytes_of c.args.line.now) in
    let count : length ws ≡ 3 = omega (arith, same) in
    let rest = rest_two [] ws c.word-t.result.now c.word-w.result.now count c.word-t.ensures c.word-w.ensures in
    rw c.tolerances_said.ensures (rw rest (some_said _ _ _ refl))
