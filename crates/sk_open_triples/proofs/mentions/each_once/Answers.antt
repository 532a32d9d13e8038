use Rattle.std.proofs.Common.{ℕ, List, subst}
use Rattle.std.specs.List.Sorted.{IsPermutation}
use Rattle.sk_open_triples.proofs.Dropping.{once_as_before}
use Rattle.sk_open_triples.proofs.mentions.each_once.Goals as goal

pub returns : goal.returns
returns c =
    once_as_before c.args.keys.now c.sort.new.self.items c.dedup.new.self.items
    (subst (λ (l : List ℕ). IsPermutation l c.sort.new.self.items) c.in_ok-once.ensures.items c.in_ok-sort.ensures.permutation) c.dedup.ensures.filtered
