use Rattle.std.proofs.Common.{◌<◌, length, map, arith}
use Rattle.std.proofs.lemmas.List.{length-map}
use Rattle.sk_lines.specs.Words.{bytes_of}
use Rattle.sk_flips.proofs.StepWords.{named_next}
use Rattle.sk_flips.proofs.flip_line.names_behind.Goals as goal

pub loop-i-preserved : goal.loop-i-preserved
loop-i-preserved c =
    let ws = map (bytes_of c.args.line.now) c.args.words.now in
    let same = length-map c.args.words.now (bytes_of c.args.line.now) in
    let inside : c.loop-i.i < length ws = omega (arith, same, c.loop-i-test.true) in
    rw c.in_ok-push-in-Ok.ensures.ok (named_next ws c.loop-i.i c.loop-i.names c.word.result.now c.in-Ok.name c.loop-i.invariant inside c.word.ensures c.in-Ok.ensures)
