use Rattle.std.proofs.Common.{◌≡◌, filter, take}
use Rattle.sk_why.specs.Needed.{is_further}
use Rattle.sk_why.proofs.walking.further_of.Given as goal

abbrev pub invariant-loop-elem : goal.invariant-loop-elem
invariant-loop-elem l = l.further ≡ filter (is_further l.named l.first l.second) (take l.elem-index l.elements)
