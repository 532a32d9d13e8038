use Rattle.std.proofs.Common.{◌≡◌, filter, take}
use Rattle.sk_why.specs.BranchOf.{is_new}
use Rattle.sk_why.proofs.branches.new_of.Given as goal

abbrev pub invariant-loop-elem : goal.invariant-loop-elem
invariant-loop-elem l = l.new ≡ filter (is_new l.these) (take l.elem-index l.further)
