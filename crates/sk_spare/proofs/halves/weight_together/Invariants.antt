use Rattle.std.proofs.Common.{◌≡◌, ◌*◌, ◌≤◌, take}
use Rattle.std.specs.Prelude.{sum_by}
use Rattle.sk_spare.specs.Halving.{cluster_weight}
use Rattle.sk_spare.proofs.halves.weight_together.Given as goal

-- what the clusters so far weigh
abbrev pub invariant-loop-cluster : goal.invariant-loop-cluster
invariant-loop-cluster l = record {
  so_far : l.weight ≡ sum_by cluster_weight (take l.cluster-index l.clusters);
  bounded : l.weight ≤ 36893488147419103232 * l.cluster-index;
}
