use Rattle.std.proofs.Common.{◌≡◌, ◌<◌, length, drop}
use Rattle.std.specs.Prelude.{slice_get}
use Rattle.std.specs.List.{flat_map}
use Rattle.sk_open_triples.specs.OpenRows.{merges_at}
use Rattle.sk_open_triples.proofs.rows.merge_at.Given as goal

abbrev pub invariant-loop-key : goal.invariant-loop-key
invariant-loop-key l = record {
  same : slice_get (flat_map (merges_at l.rows) l.order) l.place ≡ slice_get (flat_map (merges_at l.rows) (drop l.key-index l.order)) l.left;
  within : l.left < length (flat_map (merges_at l.rows) (drop l.key-index l.order));
}
