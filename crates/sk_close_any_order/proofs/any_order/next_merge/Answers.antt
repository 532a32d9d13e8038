use Rattle.std.proofs.Common.{◌∙◌, sym, subst, inl, inr}
use Rattle.std.specs.Prelude.{Contains, Option}
use Rattle.std.proofs.lemmas.List.Elements.{Contains-get_or}
use Rattle.sk_base.specs.ClusterNames.{IsBelow}
use Rattle.sk_family.specs.declared.Cluster.{Cluster}
use Rattle.sk_family.specs.Clusters.{ByName}
use Rattle.sk_family.proofs.Naming.{below_irreflexive, below_asymmetric}
use Rattle.sk_family.specs.declared.Merge.{Merge}
use Rattle.sk_close_any_order.specs.Settling.{IsAny, MergesOf}
use Rattle.sk_triangles.proofs.Fronts.{front_more, front_all, in_front}
use Rattle.sk_close_any_order.proofs.any_order.next_merge.Goals as goal

pub returns-in-Some : goal.returns-in-Some
returns-in-Some c =
    let x = c.x-item.result in
    let clusters = c.args.clusters.now in
    record {
      greatest = x;
      among = subst (λ (y : Cluster). Contains clusters y) (sym c.x-item.is) (Contains-get_or clusters c.loop-x.x-index x c.loop-x-test.true);
      merges = subst (λ (o : Option Merge). IsAny (MergesOf c.args.index.now x) o) c.in-Some.is c.in_ok-merge.ensures;
      first = λ d n d_in below.
          c.loop-x.invariant d n
          (in_front ByName (λ a. below_irreflexive a.name) (λ a b. below_asymmetric a.name b.name) clusters c.requires.by_name c.loop-x.x-index x c.loop-x-test.true d d_in
          (subst (λ (y : Cluster). IsBelow d.name y.name) c.x-item.is below));
    }

pub loop-x-preserved : goal.loop-x-preserved
loop-x-preserved c d m d_in merges =
    let none = subst (λ (o : Option Merge). IsAny (MergesOf c.args.index.now c.x-item.result) o) c.in_default.is c.in_ok-merge.ensures in
    elim ((front_more c.args.clusters.now c.loop-x.x-index c.x-item.result c.loop-x-test.true d).0 d_in) [
      | inl before ↦ c.loop-x.invariant d m before merges
      | inr here ↦ none m (subst (λ (y : Cluster). MergesOf c.args.index.now y m) (sym (c.x-item.is ∙ here)) merges)
    ]

pub returns : goal.returns
returns c d m d_in = c.loop-x.invariant d m ((front_all c.args.clusters.now c.loop-x.x-index c.loop-x-test.false d).1 d_in)
