use Rattle.std.proofs.Common.{rules, true, false, ◌≡◌}
use Rattle.std.specs.List.Sorted.{IsPartitionPoint}
use Rattle.std.proofs.lemmas.List.Sorted.{IsPartitionPoint-from_clause}
use Rattle.sk_family.proofs.Halving.{front_passes, rest_fails}
use Rattle.sk_neighbours.proofs.Walking.{below_at, at_below, at_not_below, keys_partition, tells_below}
use Rattle.sk_neighbours.proofs.index.Index.count_below.Goals as goal

point : (c : goal.After-partition_point) → IsPartitionPoint (λ k. below_at c.args.self.now c.args.name k ≡ true) (λ k. below_at c.args.self.now c.args.name k ≡ false) c.args.keys.now c.partition_point.result
point c =
    IsPartitionPoint-from_clause (below_at c.args.self.now c.args.name) c.args.keys.now c.partition_point.result c.partition_point.ensures.partitioned
    (keys_partition c.args.self.now c.args.name c.args.keys.now c.requires.in_order c.requires.held) (λ a r f' called. search (rules, tells_below))

pub returns-clause-before : goal.returns-clause-before
returns-clause-before c k k_in = at_below c.args.self.now c.args.name k (front_passes (below_at c.args.self.now c.args.name) c.args.keys.now c.partition_point.result (point c) k k_in)

pub returns-clause-after : goal.returns-clause-after
returns-clause-after c k k_in = at_not_below c.args.self.now c.args.name k (rest_fails (below_at c.args.self.now c.args.name) c.args.keys.now c.partition_point.result (point c) k k_in)
