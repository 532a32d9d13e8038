use Rattle.std.proofs.Common.{◌≡◌, map, length, arith}
use Rattle.std.proofs.lemmas.List.{length-map}
use Rattle.sk_lines.specs.Words.{bytes_of}
use Rattle.sk_claims.proofs.StepWords.{two_last}
use Rattle.sk_claims.proofs.step_line.choice_said.Goals as goal

pub returns : goal.returns
returns c =
    let ws = map (bytes_of c.args.line.now) c.args.words.now in
    let same = length-map c.args.words.now (bytes_of c.args.line.now) in
    let count : length ws ≡ 14 = omega (arith, same) in
    let last = two_last ws c.word-choice.result.now c.word.result.now count c.word-choice.ensures c.word.ensures in
    rw last c.open_choice.ensures
