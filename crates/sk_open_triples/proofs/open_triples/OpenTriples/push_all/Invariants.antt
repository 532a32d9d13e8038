use Rattle.std.proofs.Common.{◌≡◌, ◌++◌, take}
use Rattle.sk_open_triples.proofs.open_triples.OpenTriples.push_all.Given as goal

abbrev pub invariant-loop-merge : goal.invariant-loop-merge
invariant-loop-merge l = l.self ≡ l.fn.self ++ take l.merge-index l.merges
