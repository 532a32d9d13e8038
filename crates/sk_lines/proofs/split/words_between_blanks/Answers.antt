use Rattle.std.proofs.Common.{◌≡◌, ◌+◌, ◌-◌, ◌<◌, ◌∷◌, length, take, drop, sym, ap, ◌∙◌, arith, length-drop}
use Rattle.std.specs.List.{position_or_len}
use Rattle.std.proofs.lemmas.List.{take_all}
use Rattle.sk_lines.specs.Words.{is_blank, words_in}
use Rattle.sk_lines.proofs.Splitting.{words_in-skip, words_in-word_at, StandInOrder-push, StandInOrder-wider, words_in-pushed}
use Rattle.sk_lines.proofs.split.words_between_blanks.Goals as goal

pub loop-at-preserved-then-word_len-eq0 : goal.loop-at-preserved-then-word_len-eq0
loop-at-preserved-then-word_len-eq0 c =
    let line = c.args.line.now in
    let rest_is = take_all (length line - c.loop-at.at) (drop c.loop-at.at line) (omega (arith, length-drop c.loop-at.at line)) in
    let none : position_or_len is_blank (drop c.loop-at.at line) ≡ 0 = rw (sym rest_is) (sym c.len_to_blank-word_len.ensures.value ∙ c.if-word_len-eq0.true) in
    let skip = words_in-skip line c.loop-at.at c.loop-at-test.true none in
    record {
      within = omega arith;
      words = rw (sym skip) c.loop-at.invariant.words;
      order = StandInOrder-wider 0 c.loop-at.items c.loop-at.at (c.loop-at.at + 1) c.loop-at.invariant.order (omega arith);
    }

pub loop-at-preserved : goal.loop-at-preserved
loop-at-preserved c =
    let line = c.args.line.now in
    let at = c.loop-at.at in
    let len = c.len_to_blank-word_len.result in
    let rest_is = take_all (length line - at) (drop at line) (omega (arith, length-drop at line)) in
    let len_is : len ≡ position_or_len is_blank (drop at line) = c.len_to_blank-word_len.ensures.value ∙ ap (position_or_len is_blank) rest_is in
    let more : 0 < position_or_len is_blank (drop at line) = omega arith in
    let word : words_in (drop at line) ≡ take len (drop at line) ∷ words_in (drop (at + len) line) = rw len_is (words_in-word_at line at more) in
    rw c.in_ok-push.ensures.ok record {
      within = omega (arith, length-drop at line);
      words = words_in-pushed line c.loop-at.items at len c.loop-at.invariant.words word;
      order = StandInOrder-push 0 c.loop-at.items at (record { start = at; end = at + len }) (at + len) c.loop-at.invariant.order (omega arith) (omega arith) (omega arith);
    }
