use Rattle.std.proofs.Common.{[], ◌∷◌, List, sym, subst}
use Rattle.sk_base.proofs.Searches.{on_ok}
use Rattle.sk_family.specs.declared.Merge.{Merge}
use Rattle.sk_triangles.specs.Growing.{GrowsBy}
use Rattle.sk_triangles.proofs.Growing.{grows_one}
use Rattle.sk_neighbours.specs.AllTriples.{IsMergeOfThree}
use Rattle.sk_neighbours.proofs.OneMerge.{one_merge}
use Rattle.sk_neighbours.proofs.all_triples.add_merge.Goals as goal

pub returns : goal.returns
returns c =
    let kind = IsMergeOfThree c.args.x c.args.y c.args.z in
    let made = c.in-Some.ensures.some in
    on_ok c.push.result c.push.ensures.ok (λ is.
    subst (λ (new : List Merge). GrowsBy kind c.args.all.now new) (sym is)
    (grows_one kind c.args.all.now c.in-Some.merge made (λ m m_is. one_merge (c.args.x ∷ c.args.y ∷ c.args.z ∷ []) m c.in-Some.merge m_is made)))
