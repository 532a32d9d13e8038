use Rattle.std.proofs.Common.{◌≡◌, take}
use Rattle.std.specs.List.{flat_map}
use Rattle.sk_family.specs.declared.Cluster.{Cluster}
use Rattle.sk_tree.proofs.numbers.owned_by.Given as goal

-- what the clusters so far own
abbrev pub invariant-loop-cluster : goal.invariant-loop-cluster
invariant-loop-cluster l = l.owned ≡ flat_map (λ (c : Cluster). c.owned) (take l.cluster-index l.clusters)
