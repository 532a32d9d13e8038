use Rattle.std.proofs.Common.{◌≡◌, ◌<◌, length, drop}
use Rattle.std.specs.Prelude.{slice_get}
use Rattle.std.specs.List.{flat_map}
use Rattle.sk_close_by_angles.specs.MergeRows.{merges_of}
use Rattle.sk_close_by_angles.proofs.pairs.merge_at.Given as goal

abbrev pub invariant-loop-row : goal.invariant-loop-row
invariant-loop-row l = record {
  same : slice_get (flat_map merges_of l.rows) l.place ≡ slice_get (flat_map merges_of (drop l.row-index l.rows)) l.left;
  within : l.left < length (flat_map merges_of (drop l.row-index l.rows));
}
