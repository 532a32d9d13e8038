use Rattle.std.proofs.Common.{arith, length, [], sym, ◌∙◌}
use Rattle.std.proofs.lemmas.List.{get_or-map}
use Rattle.sk_lines.specs.Words.{bytes_of}
use Rattle.sk_lines.proofs.WordPlaces.{word_within}
use Rattle.sk_lines.proofs.lines.word.Goals as goal

pub between-requires-clause-rising : goal.between-requires-clause-rising
between-requires-clause-rising c =
    let within = word_within 0 c.args.words.now (length c.args.line.now) c.requires.order c.args.i (record { start = 0; end = 0 }) c.requires.below in omega (arith, within)

pub between-requires-clause-within : goal.between-requires-clause-within
between-requires-clause-within c =
    let within = word_within 0 c.args.words.now (length c.args.line.now) c.requires.order c.args.i (record { start = 0; end = 0 }) c.requires.below in omega (arith, within)

pub returns : goal.returns
returns c =
    c.between.ensures ∙ sym (get_or-map (bytes_of c.args.line.now) c.args.words.now c.args.i (record { start = 0; end = 0 }) [] c.requires.below)
