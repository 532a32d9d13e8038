use Rattle.std.proofs.Common.{ltb, arith, rules}
use Rattle.std.proofs.lemmas.Bool.Decides.{nat_tests}
use Rattle.std.proofs.lemmas.List.Sorted.{IsPartitionPoint-from_clause, IsPartitionedBy-ltb}
use Rattle.sk_place.specs.Clusters.{number_of}
use Rattle.sk_base.proofs.Halves.{rising_up}
use Rattle.sk_place.proofs.lookup.place_of.Goals as goal

pub returns : goal.returns
returns g c =
    let up = rising_up number_of c.args.boxes.now c.requires in
    let point =
    IsPartitionPoint-from_clause (λ b. ltb (number_of b) c.args.e.0) _ _ c.partition_point.ensures.partitioned
    (IsPartitionedBy-ltb number_of c.args.boxes.now c.args.e.0 up) (λ a r q k. search rules) in
    record {
      within = c.partition_point.ensures.bound;
      before = λ k d h. let less = point.0 k d (omega arith) h in grind (arith, nat_tests);
      behind = λ k d from h. let more = point.1 k d from h in grind (arith, nat_tests);
    }
