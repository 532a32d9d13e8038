use Rattle.std.proofs.Common.{◌≡◌, take}
use Rattle.sk_family.specs.Sharing.{shared, counted}
use Rattle.sk_family.proofs.cluster.common.Given as goal

-- what the elements so far share
abbrev pub invariant-loop-elem : goal.invariant-loop-elem
invariant-loop-elem l = l.overlap ≡ counted (shared (take l.elem-index l.elem-items) l.b.elements)
