use Rattle.std.proofs.Common.{◌≡◌, drop, map}
use Rattle.std.specs.Prelude.{fold}
use Rattle.sk_family.specs.declared.Cluster.{Cluster}
use Rattle.sk_close_by_angles.specs.DerivedText.{with_list, lists_in_order}
use Rattle.sk_close_by_angles.proofs.lists.lists_in_order.Given as goal

abbrev pub invariant-loop-cluster : goal.invariant-loop-cluster
invariant-loop-cluster l = fold with_list l.lists (map (λ (c : Cluster). c.elements) (drop l.cluster-index l.clusters)) ≡ lists_in_order l.clusters
