use Rattle.std.proofs.Common.{ltb, arith, rules}
use Rattle.std.proofs.lemmas.Bool.Decides.{nat_tests}
use Rattle.std.proofs.lemmas.List.Sorted.{IsPartitionPoint-from_clause, IsPartitionedBy-ltb}
use Rattle.sk_base.proofs.Halves.{rising_up}
use Rattle.sk_edits.proofs.numbered.place_of.Goals as goal

pub returns : goal.returns
returns g c =
    let number = g.T.HasNumber.number in
    let point =
    IsPartitionPoint-from_clause (λ y. ltb (number y) c.args.number) _ _ c.partition_point.ensures.partitioned
    (IsPartitionedBy-ltb number c.args.items.now c.args.number (rising_up number c.args.items.now c.requires)) (λ a r q k. search rules) in
    let within = c.partition_point.ensures.bound in
    record {
      bound = within;
      before = λ k d h. (let less = point.0 k d (omega arith) h in grind (arith, nat_tests));
      behind = λ d h. (let more = point.1 c.partition_point.result d (omega arith) h in grind (arith, nat_tests));
    }
