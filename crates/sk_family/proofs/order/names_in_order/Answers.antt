use Rattle.std.proofs.Common.{List, subst}
use Rattle.std.specs.List.Sorted.{IsPermutation}
use Rattle.sk_base.specs.declared.Name.{Name}
use Rattle.sk_family.proofs.Once.{names_same, names_order}
use Rattle.sk_family.proofs.order.names_in_order.Goals as goal

pub returns-clause-same : goal.returns-clause-same
returns-clause-same c =
    names_same c.args.names.now c.sort.new.self.items c.dedup.new.self.items
    (subst (λ (l : List Name). IsPermutation l c.sort.new.self.items) c.in_ok-ordered.ensures.items c.in_ok-sort.ensures.permutation) c.dedup.ensures.filtered

pub returns-clause-in_order : goal.returns-clause-in_order
returns-clause-in_order c =
    names_order c.args.names.now c.sort.new.self.items c.dedup.new.self.items
    (subst (λ (l : List Name). IsPermutation l c.sort.new.self.items) c.in_ok-ordered.ensures.items c.in_ok-sort.ensures.permutation) c.dedup.ensures.filtered
    c.in_ok-sort.ensures.sorted
