use Rattle.std.proofs.Common.{◌∙◌, inl, inr, subst, sym, ap, List, Vec, Global, Bool}
use Rattle.std.specs.Prelude.{Contains, AllPairs, slice_get}
use Rattle.sk_base.specs.ClusterNames.{IsBelow}
use Rattle.std.proofs.lemmas.List.Elements.{Contains-get_or}
use Rattle.sk_family.specs.declared.Cluster.{Cluster}
use Rattle.sk_family.proofs.Naming.{ByName}
use Rattle.sk_triangles.proofs.Fronts.{front_more, front_all, front_before}
use Rattle.sk_neighbours.proofs.index.Index.of.Goals as goal

pub put-requires-clause-greatest : goal.put-requires-clause-greatest
put-requires-clause-greatest c y held =
    let x = c.cluster-item.result in
    let xs = c.clusters-cluster-items.result.now in
    let i = c.loop-cluster.cluster-index in
    let rise : AllPairs ByName xs = subst (λ (l : List Cluster). AllPairs ByName l) (sym c.clusters-cluster-items.ensures.live) c.clusters-cluster-items.ensures.sound.names_rise in
    subst (λ (z : Cluster). IsBelow y.name z.name) (sym c.cluster-item.is) (front_before xs i x c.loop-cluster-test.true ByName rise y ((c.loop-cluster.invariant.held y).0 held))

pub put-requires-clause-rises : goal.put-requires-clause-rises
put-requires-clause-rises c =
    let x = c.cluster-item.result in
    let xs = c.clusters-cluster-items.result.now in
    let i = c.loop-cluster.cluster-index in
    let here : Contains xs x = subst (λ (y : Cluster). Contains xs y) (sym c.cluster-item.is) (Contains-get_or xs i x c.loop-cluster-test.true) in
    (c.clusters-cluster-items.ensures.sound.bodies_rise x (subst (λ (l : List Cluster). Contains l x) c.clusters-cluster-items.ensures.live here)).elements

pub loop-cluster-preserved : goal.loop-cluster-preserved
loop-cluster-preserved c = record {
  index = c.in_ok-put.ensures.index;
  held = λ d.
      let x = c.cluster-item.result in
      let xs = c.clusters-cluster-items.result.now in
      let more = front_more xs c.loop-cluster.cluster-index x c.loop-cluster-test.true d in
      let put = c.in_ok-put.ensures.held d in
      let so_far = c.loop-cluster.invariant.held d in (
        (λ h. more.1 (elim (put.0 h) [ inl was ↦ inl (so_far.0 was) | inr is ↦ inr (sym c.cluster-item.is ∙ sym is) ])),
        (λ h. put.1 (elim (more.0 h) [ inl before ↦ inl (so_far.1 before) | inr here ↦ inr (sym here ∙ sym c.cluster-item.is) ])),
      );
  lines = λ e.
      let same = ap (λ (v : Vec Bool Global). slice_get v.items e.0) c.in_ok-put.ensures.lines in
      ((λ h. (c.loop-cluster.invariant.lines e).0 (sym same ∙ h)), (λ h. same ∙ (c.loop-cluster.invariant.lines e).1 h));
}

pub returns : goal.returns
returns c = record {
  index = c.loop-cluster.invariant.index;
  held = λ d.
      let all = front_all c.clusters-cluster-items.result.now c.loop-cluster.cluster-index c.loop-cluster-test.false d in
      let live = c.clusters-cluster-items.ensures.live in (
        (λ h. subst (λ (l : List Cluster). Contains l d) live (all.0 ((c.loop-cluster.invariant.held d).0 h))),
        (λ h. (c.loop-cluster.invariant.held d).1 (all.1 (subst (λ (l : List Cluster). Contains l d) (sym live) h))),
      );
  lines = c.loop-cluster.invariant.lines;
}
