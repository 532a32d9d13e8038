use Rattle.std.proofs.Common.{rules, of_calls, true, false, ◌≡◌}
use Rattle.std.specs.List.Sorted.{IsPartitionPoint}
use Rattle.std.proofs.lemmas.List.Sorted.{IsPartitionPoint-from_clause}
use Rattle.sk_family.proofs.Halving.{front_passes, rest_fails}
use Rattle.sk_verdict.specs.declared.part.Part.{Part}
use Rattle.sk_base.specs.ElementOrder.{comes_before as is_before}
use Rattle.sk_base.proofs.ListOrder.{computed_before, before_computed}
use Rattle.sk_verdict.proofs.Placing.{parts_partition}
use Rattle.sk_verdict.proofs.store.count_before.Goals as goal

point : (c : goal.After-partition_point) → IsPartitionPoint (λ (p : Part). is_before p.elements c.args.elements.now ≡ true) (λ (p : Part). is_before p.elements c.args.elements.now ≡ false) c.args.parts.now c.partition_point.result
point c =
    IsPartitionPoint-from_clause (λ (p : Part). is_before p.elements c.args.elements.now) c.args.parts.now c.partition_point.result c.partition_point.ensures.partitioned
    (parts_partition c.args.elements.now c.args.parts.now c.requires) (λ a r f' called. (search (rules, of_calls), search (rules, of_calls)))

pub returns-clause-before : goal.returns-clause-before
returns-clause-before c p p_in =
    computed_before p.elements c.args.elements.now (front_passes (λ (q : Part). is_before q.elements c.args.elements.now) c.args.parts.now c.partition_point.result (point c) p p_in)

pub returns-clause-after : goal.returns-clause-after
returns-clause-after c p p_in before =
    let fails = rest_fails (λ (q : Part). is_before q.elements c.args.elements.now) c.args.parts.now c.partition_point.result (point c) p p_in in
    let passes = before_computed p.elements c.args.elements.now before in
    cc
