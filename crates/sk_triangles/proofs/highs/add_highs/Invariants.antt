use Rattle.std.proofs.Common.{take}
use Rattle.sk_triangles.specs.Growing.{GrowsBy, FromSome}
use Rattle.sk_triangles.specs.Ranks.{IsHighOf}
use Rattle.sk_triangles.proofs.highs.add_highs.Given as goal

abbrev pub invariant-loop-end : goal.invariant-loop-end
invariant-loop-end l = GrowsBy (FromSome (IsHighOf l.counts) (take l.end-index l.ends)) l.fn.highs l.highs
