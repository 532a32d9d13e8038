use Rattle.sk_base.proofs.Searches.{NoneBefore}
use Rattle.sk_neighbours.specs.Indexed.{IsNamedAt}
use Rattle.sk_neighbours.proofs.index.Index.key_named.Given as goal

abbrev pub invariant-loop-key : goal.invariant-loop-key
invariant-loop-key l = NoneBefore (IsNamedAt l.self l.name) l.keys l.key-index
