use Rattle.std.proofs.Common.{leb, rules}
use Rattle.std.proofs.lemmas.Bool.{leb-true, leb-false}
use Rattle.std.proofs.lemmas.List.Sorted.{IsPartitionPoint-from_clause, IsPartitionedBy-leb}
use Rattle.sk_triangles.specs.Ends.{corner_number}
use Rattle.sk_triangles.proofs.ends.count_up_to.Goals as goal

pub returns-clause-place : goal.returns-clause-place
returns-clause-place c =
    let point =
    IsPartitionPoint-from_clause (λ x. leb (corner_number x) c.args.corner.0) c.args.ends.now c.partition_point.result c.partition_point.ensures.partitioned
    (IsPartitionedBy-leb corner_number c.args.ends.now c.args.corner.0 c.requires) (λ a r q k. search rules) in (
      (λ k d from before. leb-true _ _ (point.0 k d from before)),
      (λ k d from k_in. leb-false _ _ (point.1 k d from k_in)),
    )
