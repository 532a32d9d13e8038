use Rattle.std.proofs.Common.{take, []}
use Rattle.sk_triangles.specs.Growing.{FromSome, GrowsBy}
use Rattle.sk_open_triples.specs.OpenRows.{Mention}
use Rattle.sk_open_triples.proofs.mentions.keys_of_all.Given as goal

abbrev pub invariant-loop-name : goal.invariant-loop-name
invariant-loop-name l = GrowsBy (FromSome (Mention l.mentions) (take l.name-index l.names)) [] l.all
