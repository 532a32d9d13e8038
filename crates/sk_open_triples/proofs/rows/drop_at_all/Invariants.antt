use Rattle.std.proofs.Common.{take}
use Rattle.sk_open_triples.specs.OpenRows.{AreDropped}
use Rattle.sk_open_triples.proofs.rows.drop_at_all.Given as goal

abbrev pub invariant-loop-key : goal.invariant-loop-key
invariant-loop-key l = AreDropped l.names (take l.key-index l.keys) l.fn.rows l.rows
