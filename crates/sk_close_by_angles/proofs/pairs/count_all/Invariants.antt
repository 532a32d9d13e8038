use Rattle.std.proofs.Common.{◌≡◌, length, take}
use Rattle.std.specs.List.{flat_map}
use Rattle.sk_close_by_angles.specs.MergeRows.{merges_of}
use Rattle.sk_close_by_angles.proofs.pairs.count_all.Given as goal

abbrev pub invariant-loop-row : goal.invariant-loop-row
invariant-loop-row l = l.count ≡ length (flat_map merges_of (take l.row-index l.rows))
