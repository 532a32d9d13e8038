use Rattle.std.proofs.Common.{[], ◌≡◌, map, length, arith}
use Rattle.std.proofs.lemmas.List.{length-map}
use Rattle.sk_lines.specs.Words.{bytes_of}
use Rattle.sk_base.proofs.Rests.{rest_three, rest_four}
use Rattle.sk_offers.proofs.offer_line.offer_of.Goals.{else-words-ne4-via-then-words-ne4+else-words-ne5, else-words-ne4-via-else-words-ne4}
use Rattle.sk_offers.proofs.offer_line.offer_of.Goals as goal

pub returns-then-words-eq4 : goal.returns-then-words-eq4
returns-then-words-eq4 c =
    let ws = map (bytes_of c.args.line.now) c.args.words.now in
    let same = length-map c.args.words.now (bytes_of c.args.line.now) in
    let count : length ws ≡ 4 = omega (arith, same, c.if-words-eq4.true) in
    let rest = rest_three [] ws c.word-worker.result.now c.word-x.result.now c.word-y.result.now count c.word-worker.ensures c.word-x.ensures c.word-y.ensures in
    rw rest c.offer_of_two.ensures

pub returns : goal.returns
returns c =
    let ws = map (bytes_of c.args.line.now) c.args.words.now in
    let same = length-map c.args.words.now (bytes_of c.args.line.now) in
    let count : length ws ≡ 5 = elim c.else-words-ne4.branch [
      | else-words-ne4-via-then-words-ne4+else-words-ne5 w ↦ omega (arith, same, w.if-words-ne5)
      | else-words-ne4-via-else-words-ne4 w ↦ absurd (omega (arith, w.if-words-ne4, c.if-words-eq4.false))
    ] in
    let rest = rest_four [] ws c.word-worker.result.now c.word-x.result.now c.word-y.result.now c.word-z.result.now count c.word-worker.ensures c.word-x.ensures c.word-y.ensures c.word-z.ensures in
    rw rest c.offer_of_three.ensures
