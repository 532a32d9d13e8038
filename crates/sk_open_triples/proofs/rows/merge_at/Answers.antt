use Rattle.std.proofs.Common.{◌∙◌, ◌+◌, ◌-◌, ◌<◌, ◌≤◌, get_or, length, drop, sym, ap, arith}
use Rattle.std.specs.Prelude.{slice_get}
use Rattle.std.specs.List.{flat_map}
use Rattle.std.proofs.lemmas.List.Elements.{Contains-get_or}
use Rattle.sk_open_triples.specs.OpenRows.{merges_at}
use Rattle.sk_open_triples.proofs.Inheritance.{rest_length, item_here, item_later}
use Rattle.sk_open_triples.proofs.rows.merge_at.Goals as goal

pub count_at-count-requires : goal.count_at-count-requires
count_at-count-requires c = c.requires.keys (get_or c.args.order.now c.loop-key.key-index 0) (Contains-get_or c.args.order.now c.loop-key.key-index 0 c.loop-key-test.true)

pub merge_in-requires-clause-key : goal.merge_in-requires-clause-key
merge_in-requires-clause-key c = c.requires.keys (get_or c.args.order.now c.loop-key.key-index 0) (Contains-get_or c.args.order.now c.loop-key.key-index 0 c.loop-key-test.true)

pub returns-then-left-count : goal.returns-then-left-count
returns-then-left-count c =
    let order = c.args.order.now in
    let i = c.loop-key.key-index in
    let within : c.loop-key.left < length (merges_at c.args.rows.now (get_or order i 0)) = omega (arith, c.if-left-count.true, c.count_at-count.ensures) in
    c.loop-key.invariant.same ∙ item_here (merges_at c.args.rows.now) order i 0 c.loop-key-test.true c.loop-key.left within ∙ c.merge_in.ensures

pub loop-key-preserved : goal.loop-key-preserved
loop-key-preserved c =
    let f = merges_at c.args.rows.now in
    let order = c.args.order.now in
    let i = c.loop-key.key-index in
    let past : length (f (get_or order i 0)) ≤ c.loop-key.left = omega (arith, c.if-left-count.false, c.count_at-count.ensures) in
    let long = rest_length f order i 0 c.loop-key-test.true in
    record {
      same = c.loop-key.invariant.same ∙ item_later f order i 0 c.loop-key-test.true c.loop-key.left past
          ∙ ap (λ n. slice_get (flat_map f (drop (i + 1) order)) (c.loop-key.left - n)) (sym c.count_at-count.ensures);
      within = omega (arith, long, past, c.count_at-count.ensures, c.loop-key.invariant.within);
    }
