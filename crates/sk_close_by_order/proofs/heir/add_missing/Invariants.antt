use Rattle.std.proofs.Common.{take}
use Rattle.sk_triangles.specs.Growing.{GrowsBy, FromSome}
use Rattle.sk_close_by_order.specs.Heirs.{MissesSome}
use Rattle.sk_close_by_order.proofs.heir.add_missing.Given as goal

abbrev pub invariant-loop-elem : goal.invariant-loop-elem
invariant-loop-elem l = GrowsBy (FromSome (MissesSome l.many) (take l.elem-index l.elements)) l.fn.all l.all
