use Rattle.std.proofs.Common.{◌≡◌, ◌≤◌, true, false, ltb, leb, rules, ap}
use Rattle.std.specs.List.Sorted.{IsPartitionPoint}
use Rattle.std.proofs.lemmas.List.Sorted.{IsPartitionPoint-from_clause, IsPartitionedBy-leb, IsPartitionedBy-ltb}
use Rattle.sk_base.specs.declared.Elem.{Elem}
use Rattle.sk_base.specs.Numbering.{elem_exact}
use Rattle.sk_triangles.specs.Ends.{end_number}
use Rattle.sk_triangles.proofs.Between.{between, ordered}
use Rattle.sk_triangles.proofs.ends.ends_at.Goals as goal
use Rattle.sk_triangles.proofs.ends.ends_at.Goals.{After-partition_point-past}

low : (c : goal.After-partition_point-past) → IsPartitionPoint (λ y. ltb (end_number y) c.args.elem.0 ≡ true) (λ y. ltb (end_number y) c.args.elem.0 ≡ false) c.args.ends.now c.partition_point-first.result
low c =
    IsPartitionPoint-from_clause (λ y. ltb (end_number y) c.args.elem.0) c.args.ends.now c.partition_point-first.result c.partition_point-first.ensures.partitioned
    (IsPartitionedBy-ltb end_number c.args.ends.now c.args.elem.0 c.requires) (λ a r q k. search rules)

up : (c : goal.After-partition_point-past) → IsPartitionPoint (λ y. leb (end_number y) c.args.elem.0 ≡ true) (λ y. leb (end_number y) c.args.elem.0 ≡ false) c.args.ends.now c.partition_point-past.result
up c =
    IsPartitionPoint-from_clause (λ y. leb (end_number y) c.args.elem.0) c.args.ends.now c.partition_point-past.result c.partition_point-past.ensures.partitioned
    (IsPartitionedBy-leb end_number c.args.ends.now c.args.elem.0 c.requires) (λ a r q k. search rules)

in_order : (c : goal.After-partition_point-past) → c.partition_point-first.result ≤ c.partition_point-past.result
in_order c = ordered end_number c.args.elem.0 c.args.ends.now c.partition_point-first.result c.partition_point-past.result (low c) (up c) c.partition_point-first.ensures.bound

pub slice_bounds-result-count : goal.slice_bounds-result-count
slice_bounds-result-count c = in_order c

pub slice_bounds-result-start : goal.slice_bounds-result-start
slice_bounds-result-start c = in_order c

pub returns : goal.returns
returns c x =
    let at = (goal.at.returns c).After-partition_point-past in
    let here =
    between end_number c.args.elem.0 c.args.ends.now c.partition_point-first.result c.partition_point-past.result (low at) (up at) c.partition_point-first.ensures.bound (in_order at)
    c.partition_point-past.ensures.bound x in
    ((λ h. (let (x_in, same) = here.0 h in (x_in, elem_exact x.elem c.args.elem same))), (λ (x_in, same). here.1 (x_in, ap (λ (e : Elem). e.0) same)))
