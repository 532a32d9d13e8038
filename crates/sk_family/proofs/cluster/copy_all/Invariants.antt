use Rattle.std.proofs.Common.{◌≡◌, take}
use Rattle.sk_family.proofs.cluster.copy_all.Given as goal

-- those so far
abbrev pub invariant-loop-cluster : goal.invariant-loop-cluster
invariant-loop-cluster l = l.copies.items ≡ take l.cluster-index l.clusters
