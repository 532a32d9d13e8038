use Rattle.std.proofs.Common.{List, subst}
use Rattle.std.specs.List.Sorted.{IsPermutation}
use Rattle.sk_open_triples.specs.declared.lower_pairs.LowerPair.{LowerPair}
use Rattle.sk_open_triples.proofs.Sorting.{pairs_same, pairs_order}
use Rattle.sk_open_triples.proofs.lower_pairs.lower_pairs_in_order.Goals as goal

pub returns-clause-same : goal.returns-clause-same
returns-clause-same c =
    pairs_same c.args.pairs.now c.sort.new.self.items c.dedup.new.self.items
    (subst (λ (l : List LowerPair). IsPermutation l c.sort.new.self.items) c.in_ok-ordered.ensures.items c.in_ok-sort.ensures.permutation) c.dedup.ensures.filtered

pub returns-clause-in_order : goal.returns-clause-in_order
returns-clause-in_order c =
    pairs_order c.args.pairs.now c.sort.new.self.items c.dedup.new.self.items
    (subst (λ (l : List LowerPair). IsPermutation l c.sort.new.self.items) c.in_ok-ordered.ensures.items c.in_ok-sort.ensures.permutation) c.dedup.ensures.filtered
    c.in_ok-sort.ensures.sorted
