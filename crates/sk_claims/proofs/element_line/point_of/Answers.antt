use Rattle.std.proofs.Common.{[], ◌≡◌, map, length, refl, arith}
use Rattle.std.proofs.lemmas.List.{length-map}
use Rattle.sk_lines.specs.Words.{bytes_of}
use Rattle.sk_base.proofs.Rests.{rest_three}
use Rattle.sk_claims.proofs.StepWords.{said}
use Rattle.sk_claims.proofs.element_line.point_of.Goals as goal

pub returns : goal.returns
returns c =
    let ws = map (bytes_of c.args.line.now) c.args.words.now in
    let same = length-map c.args.words.now (bytes_of c.args.line.now) in
    let count : length ws ≡ 4 = omega (arith, same) in
    let rest = rest_three [] ws c.word-name.result.now c.word-x.result.now c.word-y.result.now count c.word-name.ensures c.word-x.ensures c.word-y.ensures in
    rw c.point_said.ensures (rw rest (said _ _ _ refl))
