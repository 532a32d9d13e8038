use Rattle.std.proofs.Common.{◌≡◌, ◌-◌, ◌∙◌, List, length, subst}
use Rattle.std.specs.Prelude.{AllPairs, Some, slice_get}
use Rattle.std.proofs.lemmas.Option.{same_Some}
use Rattle.sk_family.specs.declared.Cluster.{Cluster}
use Rattle.sk_open_triples.specs.MergeOrder.{ComesFirst}
use Rattle.sk_family.proofs.Outcomes.{both_on_ok}
use Rattle.sk_close_by_angles.specs.TieMerges.{AreBelow, FindsOf}
use Rattle.sk_close_by_angles.proofs.tie_merges.add_merges_of_last.Goals as goal

pub returns-in-Some-clause-found : goal.returns-in-Some-clause-found
returns-in-Some-clause-found c =
    let graph = c.args.graph.now in
    let family = c.args.family.now in
    let old = c.args.found.now in
    let new = c.add_merges_with.new.found in
    let here = c.in-Some.last.now in
    let here_is : Some here ≡ slice_get family.live (length family.live - 1) = subst (λ (cs : List Cluster). Some here ≡ slice_get cs (length cs - 1)) c.clusters.ensures.live c.in-Some.ensures.value in
    both_on_ok c.add_merges_with.result c.add_merges_with.ensures.found c.add_merges_with.ensures.in_order (λ finds ordered a last.
    subst (λ (z : Cluster). FindsOf graph family z family.live old new × (AllPairs ComesFirst old → AreBelow old z.name → AllPairs ComesFirst new)) (same_Some _ _ (here_is ∙ last)) (finds, ordered))
