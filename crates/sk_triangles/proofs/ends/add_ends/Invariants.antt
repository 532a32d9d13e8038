use Rattle.std.proofs.Common.{take}
use Rattle.sk_triangles.specs.Growing.{GrowsBy}
use Rattle.sk_triangles.specs.Ends.{EndsAmong}
use Rattle.sk_triangles.proofs.ends.add_ends.Given as goal

abbrev pub invariant-loop-elem : goal.invariant-loop-elem
invariant-loop-elem l = GrowsBy (EndsAmong l.name l.corner (take l.elem-index l.elements)) l.fn.ends l.ends
