use Rattle.std.proofs.Common.{sym, subst, List}
use Rattle.std.specs.Prelude.{Contains}
use Rattle.sk_base.specs.declared.Elem.{Elem}
use Rattle.sk_base.proofs.Searches.{on_ok}
use Rattle.sk_triangles.specs.declared.End.{End}
use Rattle.sk_triangles.specs.Growing.{FromSome, GrowsBy}
use Rattle.sk_triangles.proofs.Growing.{grows_same, grown_from_none}
use Rattle.sk_neighbours.specs.Triples.{AtCorner}
use Rattle.sk_neighbours.specs.Walked.{MeetAny}
use Rattle.sk_neighbours.specs.Walks.{AtElement}
use Rattle.sk_neighbours.proofs.AtCorners.{corner_met, ends_of}
use Rattle.sk_neighbours.proofs.meeting.add_by_ends.Goals as goal

pub returns : goal.returns
returns c =
    let ix = c.args.index.now in
    let x = c.args.x.now in
    let found = grown_from_none (AtElement ends_of ix x.name c.args.a) _ c.at_element.new.all c.new-ends.ensures c.in_ok-at_element.ensures in
    let kind = AtElement (MeetAny c.args.third ix c.as_slice-2.result.now x.name c.args.a) ix x.name in
    on_ok c.along.result c.along.ensures (λ grows.
    grows_same (FromSome kind x.elements) (AtCorner c.args.third ix x c.args.a) c.args.all.now c.along.new.all
    (corner_met ix c.args.third x c.args.a c.as_slice-2.result.now
    (λ e. (
      (λ h. (found e).0 (subst (λ (l : List End). Contains l e) c.as_slice.ensures ((c.in_ok-sorted.ensures.same e).0 (subst (λ (l : List End). Contains l e) c.as_slice-2.ensures.value h)))),
      (λ h. subst (λ (l : List End). Contains l e) (sym c.as_slice-2.ensures.value) ((c.in_ok-sorted.ensures.same e).1 (subst (λ (l : List End). Contains l e) (sym c.as_slice.ensures) ((found e).1 h)))),
    )))
    (subst (λ (es : List Elem). GrowsBy (FromSome kind es) c.args.all.now c.along.new.all) c.as_slice-3.ensures grows))
