use Rattle.std.proofs.Common.{rules, true, false, ◌≡◌}
use Rattle.std.specs.List.Sorted.{IsPartitionPoint}
use Rattle.std.proofs.lemmas.List.Sorted.{IsPartitionPoint-from_clause}
use Rattle.sk_family.specs.declared.cluster.Cluster.{Cluster}
use Rattle.sk_family.proofs.Halving.{is_before, front_passes, rest_fails, before_below, not_below, names_partition, tells_before}
use Rattle.sk_family.proofs.search.count_below.Goals as goal

point : (c : goal.After-partition_point) → IsPartitionPoint (λ (x : Cluster). is_before x.name c.args.name ≡ true) (λ (x : Cluster). is_before x.name c.args.name ≡ false) c.args.clusters.now c.partition_point.result
point c =
    IsPartitionPoint-from_clause (λ (x : Cluster). is_before x.name c.args.name) c.args.clusters.now c.partition_point.result c.partition_point.ensures.partitioned
    (names_partition c.args.clusters.now c.args.name c.requires) (λ a r f' called. search (rules, tells_before))

pub returns-clause-before : goal.returns-clause-before
returns-clause-before c x x_in =
    before_below x.name c.args.name (front_passes (λ (y : Cluster). is_before y.name c.args.name) c.args.clusters.now c.partition_point.result (point c) x x_in)

pub returns-clause-after : goal.returns-clause-after
returns-clause-after c x x_in =
    not_below x.name c.args.name (rest_fails (λ (y : Cluster). is_before y.name c.args.name) c.args.clusters.now c.partition_point.result (point c) x x_in)
