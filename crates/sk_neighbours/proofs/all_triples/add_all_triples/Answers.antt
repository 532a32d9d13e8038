use Rattle.std.proofs.Common.{sym, subst, List}
use Rattle.std.specs.Prelude.{Contains}
use Rattle.sk_base.proofs.Searches.{on_ok}
use Rattle.sk_triangles.specs.declared.End.{End}
use Rattle.sk_triangles.specs.Growing.{FromSome}
use Rattle.sk_triangles.proofs.Growing.{grows_same, grown_from_none}
use Rattle.sk_neighbours.specs.AllTriples.{EndsOf, IsMergeOfThree, IsTripleAmong}
use Rattle.sk_triangles.specs.Walk.{Found}
use Rattle.sk_neighbours.proofs.Middle.{found_among}
use Rattle.sk_neighbours.proofs.all_triples.add_all_triples.Goals as goal

pub returns : goal.returns
returns c =
    let clusters = c.args.clusters.now in
    let counts = c.as_slice-3.result.now in
    let ends = c.as_slice-4.result.now in
    let made = grown_from_none (FromSome EndsOf clusters) _ c.add_ends_of_all.new.ends c.new-ends.ensures c.in_ok-add_ends_of_all.ensures in
    on_ok c.add_triangles.result c.add_triangles.ensures (λ grows.
    grows_same (FromSome (Found IsMergeOfThree c.args.lines.now counts ends) ends) (IsTripleAmong c.args.lines.now clusters) c.args.all.now c.add_triangles.new.all
    (found_among c.args.lines.now counts clusters ends
    (λ x. (
      (λ h. (made x).0 (subst (λ (l : List End). Contains l x) c.as_slice-2.ensures ((c.in_ok-sorted.ensures.same x).0 (subst (λ (l : List End). Contains l x) c.as_slice-4.ensures.value h)))),
      (λ h. subst (λ (l : List End). Contains l x) (sym c.as_slice-4.ensures.value) ((c.in_ok-sorted.ensures.same x).1 (subst (λ (l : List End). Contains l x) (sym c.as_slice-2.ensures) ((made x).1 h)))),
    )))
    grows)
