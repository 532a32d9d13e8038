use Rattle.std.proofs.Common.{◌∙◌, get_or, length, ap, arith}
use Rattle.std.specs.List.{flat_map}
use Rattle.std.proofs.lemmas.List.{take_all}
use Rattle.std.proofs.lemmas.List.Elements.{Contains-get_or}
use Rattle.sk_open_triples.specs.OpenRows.{merges_at}
use Rattle.sk_open_triples.proofs.Inheritance.{front_length}
use Rattle.sk_open_triples.proofs.rows.count_all.Goals as goal

pub count_at-requires : goal.count_at-requires
count_at-requires c = c.requires (get_or c.args.order.now c.loop-key.key-index 0) (Contains-get_or c.args.order.now c.loop-key.key-index 0 c.loop-key-test.true)

pub loop-key-preserved : goal.loop-key-preserved
loop-key-preserved c =
    let more = front_length (merges_at c.args.rows.now) c.args.order.now c.loop-key.key-index 0 c.loop-key-test.true in
    omega (arith, more, c.loop-key.invariant, c.count_at.ensures, c.in_ok-count.ensures)

pub returns : goal.returns
returns c = c.loop-key.invariant ∙ ap (λ l. length (flat_map (merges_at c.args.rows.now) l)) (take_all c.loop-key.key-index c.args.order.now c.loop-key-test.false)
