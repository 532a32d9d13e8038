use Rattle.std.proofs.Common.{List, subst}
use Rattle.std.specs.List.Sorted.{IsPermutation}
use Rattle.sk_family.specs.declared.Merge.{Merge}
use Rattle.sk_open_triples.proofs.Sorting.{sorted_same, sorted_order}
use Rattle.sk_open_triples.proofs.order.in_order.Goals as goal

pub returns-clause-same : goal.returns-clause-same
returns-clause-same c =
    sorted_same c.args.merges.now c.sort.new.self.items c.dedup.new.self.items
    (subst (λ (l : List Merge). IsPermutation l c.sort.new.self.items) c.in_ok-ordered.ensures.items c.in_ok-sort.ensures.permutation) c.dedup.ensures.filtered

pub returns-clause-in_order : goal.returns-clause-in_order
returns-clause-in_order c =
    sorted_order c.args.merges.now c.sort.new.self.items c.dedup.new.self.items
    (subst (λ (l : List Merge). IsPermutation l c.sort.new.self.items) c.in_ok-ordered.ensures.items c.in_ok-sort.ensures.permutation) c.dedup.ensures.filtered
    c.in_ok-sort.ensures.sorted
