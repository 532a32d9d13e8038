use Rattle.std.proofs.Common.{◌≡◌, length, take}
use Rattle.std.specs.List.{flat_map}
use Rattle.sk_open_triples.specs.OpenRows.{merges_at}
use Rattle.sk_open_triples.proofs.rows.count_all.Given as goal

abbrev pub invariant-loop-key : goal.invariant-loop-key
invariant-loop-key l = l.count ≡ length (flat_map (merges_at l.rows) (take l.key-index l.order))
