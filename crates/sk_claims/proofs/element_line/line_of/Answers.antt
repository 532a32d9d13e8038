use Rattle.std.proofs.Common.{[], ◌≡◌, map, length, refl, arith}
use Rattle.std.proofs.lemmas.List.{length-map}
use Rattle.sk_lines.specs.Words.{bytes_of}
use Rattle.sk_base.proofs.Rests.{rest_four}
use Rattle.sk_claims.proofs.StepWords.{said}
use Rattle.sk_claims.proofs.element_line.line_of.Goals as goal

pub returns : goal.returns
returns c =
    let ws = map (bytes_of c.args.line.now) c.args.words.now in
    let same = length-map c.args.words.now (bytes_of c.args.line.now) in
    let count : length ws ≡ 5 = omega (arith, same) in
    let rest = rest_four [] ws c.word-name.result.now c.word-a.result.now c.word-b.result.now c.word-c.result.now count c.word-name.ensures c.word-a.ensures c.word-b.ensures c.word-c.ensures in
    rw c.line_said.ensures (rw rest (said _ _ _ refl))
