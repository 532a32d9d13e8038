use Rattle.std.proofs.Common.{◌∙◌, sym, subst, refl, inl, inr}
use Rattle.std.specs.Prelude.{Contains}
use Rattle.std.proofs.lemmas.List.Elements.{Contains-get_or}
use Rattle.sk_base.specs.ClusterNames.{IsBelow}
use Rattle.sk_family.specs.declared.Cluster.{Cluster}
use Rattle.sk_family.specs.Clusters.{ByName}
use Rattle.sk_family.proofs.Naming.{below_irreflexive, below_asymmetric}
use Rattle.sk_neighbours.specs.Partners.{Partner}
use Rattle.sk_triangles.proofs.Fronts.{front_more, front_all, in_front}
use Rattle.sk_close_by_order.proofs.partner.first_with_partner.Goals as goal

pub least_partner_by-requires-clause-tells : goal.least_partner_by-requires-clause-tells
least_partner_by-requires-clause-tells c =
    let clusters = c.args.clusters.now in
    c.requires.tells c.x-item.result (subst (λ (y : Cluster). Contains clusters y) (sym c.x-item.is) (Contains-get_or clusters c.loop-x.x-index c.x-item.result c.loop-x-test.true))

pub returns-in-Some-clause-some : goal.returns-in-Some-clause-some
returns-in-Some-clause-some c =
    let x = c.x-item.result in
    let clusters = c.args.clusters.now in
    record {
      greater = x;
      among = subst (λ (y : Cluster). Contains clusters y) (sym c.x-item.is) (Contains-get_or clusters c.loop-x.x-index x c.loop-x-test.true);
      has_name = refl;
      least = c.in-Some.ensures;
      first = λ d n d_in below.
          c.loop-x.invariant d n
          (in_front ByName (λ a. below_irreflexive a.name) (λ a b. below_asymmetric a.name b.name) clusters c.requires.by_name c.loop-x.x-index x c.loop-x-test.true d d_in
          (subst (λ (y : Cluster). IsBelow d.name y.name) c.x-item.is below));
    }

pub loop-x-preserved : goal.loop-x-preserved
loop-x-preserved c d n d_in partner =
    elim ((front_more c.args.clusters.now c.loop-x.x-index c.x-item.result c.loop-x-test.true d).0 d_in) [
      | inl before ↦ c.loop-x.invariant d n before partner
      | inr here ↦ c.in_default.ensures n (subst (λ (y : Cluster). Partner c.args.index.now y n) (sym (c.x-item.is ∙ here)) partner)
    ]

pub returns-clause-none : goal.returns-clause-none
returns-clause-none c d n d_in = c.loop-x.invariant d n ((front_all c.args.clusters.now c.loop-x.x-index c.loop-x-test.false d).1 d_in)
