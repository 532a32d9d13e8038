use Rattle.std.proofs.Common.{ap, arith, length, ◌∙◌}
use Rattle.std.specs.List.{flat_map}
use Rattle.std.proofs.lemmas.List.{take_all}
use Rattle.sk_close_by_angles.specs.MergeRows.{merges_of}
use Rattle.sk_close_by_angles.proofs.Pairing.{front_length, front_within}
use Rattle.sk_close_by_angles.proofs.pairs.count_all.Goals as goal

pub overflow_add-count : goal.overflow_add-count
overflow_add-count c =
    let within = front_within c.args.rows.now c.loop-row.row-index c.row-item.result c.loop-row-test.true c.row-item.is in
    let size = ap length c.as_slice.ensures in
    omega (arith, within, size)

pub loop-row-preserved : goal.loop-row-preserved
loop-row-preserved c =
    let more = front_length c.args.rows.now c.loop-row.row-index c.row-item.result c.loop-row-test.true c.row-item.is in
    let size = ap length c.as_slice.ensures in
    omega (arith, more, size)

pub returns : goal.returns
returns c = c.loop-row.invariant ∙ ap (λ l. length (flat_map merges_of l)) (take_all c.loop-row.row-index c.args.rows.now c.loop-row-test.false)
