use Rattle.std.proofs.Common.{rules}
use Rattle.std.proofs.lemmas.List.Sorted.{IsNonDecreasingBy-from_sort_by_key}
use Rattle.sk_triangles.specs.Ends.{corner_number}
use Rattle.sk_triangles.proofs.ends.by_corner.Goals as goal

pub returns-clause-sorted : goal.returns-clause-sorted
returns-clause-sorted c = IsNonDecreasingBy-from_sort_by_key corner_number _ c.sort_unstable_by_key.ensures.sorted (λ a r q k. search rules)
