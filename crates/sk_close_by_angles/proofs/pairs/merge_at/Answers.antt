use Rattle.std.proofs.Common.{◌≡◌, ◌+◌, ◌-◌, ◌≤◌, ap, arith, length, sym, ◌∙◌, get_or, drop}
use Rattle.std.specs.Prelude.{slice_get, Some}
use Rattle.std.specs.List.{flat_map}
use Rattle.sk_base.specs.declared.Name.TheVariants.{Con}
use Rattle.sk_family.specs.declared.Merge.TheVariants.{Two}
use Rattle.sk_close_by_angles.specs.MergeRows.{merges_of}
use Rattle.sk_close_by_angles.proofs.Pairing.{rest_length, merge_here, merge_later}
use Rattle.sk_close_by_angles.proofs.pairs.merge_at.Goals as goal

pub loop-row-preserved : goal.loop-row-preserved
loop-row-preserved c =
    let rows = c.args.rows.now in
    let i = c.loop-row.row-index in
    let row = c.row-item.result in
    let left = c.loop-row.left in
    let size : length c.as_slice-lessers.result.now ≡ length row.lessers = ap (λ l. length l) c.as_slice-lessers.ensures in
    let past : length row.lessers ≤ left = omega (arith, size) in
    let long = rest_length rows i row c.loop-row-test.true c.row-item.is in
    record {
      same = c.loop-row.invariant.same ∙ merge_later rows i row c.loop-row-test.true c.row-item.is left past
          ∙ ap (λ n. slice_get (flat_map merges_of (drop (i + 1) rows)) (left - n)) (sym size);
      within = omega (arith, long, size, c.loop-row.invariant.within);
    }

pub returns-then-left-lessers : goal.returns-then-left-lessers
returns-then-left-lessers c =
    let rows = c.args.rows.now in
    let i = c.loop-row.row-index in
    let row = c.row-item.result in
    let left = c.loop-row.left in
    let all = c.as_slice-lessers.ensures in
    let size : length c.as_slice-lessers.result.now ≡ length row.lessers = ap (λ l. length l) all in
    c.loop-row.invariant.same
    ∙ merge_here rows i row c.loop-row-test.true c.row-item.is left (Con 0) (omega (arith, size))
    ∙ ap (λ l. Some (Two row.greater (get_or l left (Con 0)))) (sym all)
