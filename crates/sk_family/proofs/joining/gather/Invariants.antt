use Rattle.std.proofs.Common.{◌≡◌, take, drop}
use Rattle.std.specs.List.{flat_map}
use Rattle.sk_family.specs.declared.cluster.Cluster.{Cluster}
use Rattle.sk_family.specs.Clusters.{named}
use Rattle.sk_family.proofs.SideBySide.{names_of}
use Rattle.sk_family.proofs.joining.gather.Given as goal

abbrev pub invariant-loop-cluster : goal.invariant-loop-cluster
invariant-loop-cluster l = record {
  elements : l.gathered.elements.items ≡ flat_map (λ (c : Cluster). c.elements) (named l.names (take l.cluster-index l.clusters));
  owned : l.gathered.owned.items ≡ flat_map (λ (c : Cluster). c.owned) (named l.names (take l.cluster-index l.clusters));
  so_far : drop l.place l.names ≡ names_of (named l.names (drop l.cluster-index l.clusters));
}
