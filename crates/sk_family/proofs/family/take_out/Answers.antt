use Rattle.std.proofs.Common.{◌∙◌, sym, subst, List, refl}
use Rattle.std.specs.Prelude.{Contains, take, drop}
use Rattle.sk_base.proofs.Searches.{refused}
use Rattle.sk_family.specs.declared.cluster.Cluster.{Cluster}
use Rattle.sk_family.specs.Clusters.{IsAt}
use Rattle.sk_family.proofs.Taking.{taken_out, not_there}
use Rattle.sk_family.proofs.family.take_out.Goals as goal

pub returns-then-is_at : goal.returns-then-is_at
returns-then-is_at c =
    let place = c.count_below-place.result in
    let same = c.as_slice.ensures in
    c.remove.ensures
    ∙ taken_out c.args.clusters.now c.args.name place c.requires
    (λ d h. c.count_below-place.ensures.before d (subst (λ (l : List Cluster). Contains (take place l) d) (sym same) h))
    (λ d h. c.count_below-place.ensures.after d (subst (λ (l : List Cluster). Contains (drop place l) d) (sym same) h))
    (subst (λ (l : List Cluster). IsAt l place c.args.name) c.as_slice-2.ensures (c.if-is_at.ensures.0 refl))

pub returns-else-is_at : goal.returns-else-is_at
returns-else-is_at c =
    let place = c.count_below-place.result in
    let same = c.as_slice.ensures in
    not_there c.args.clusters.now c.args.name place c.requires
    (λ d h. c.count_below-place.ensures.before d (subst (λ (l : List Cluster). Contains (take place l) d) (sym same) h))
    (λ d h. c.count_below-place.ensures.after d (subst (λ (l : List Cluster). Contains (drop place l) d) (sym same) h))
    (λ at. refused c.if-is_at.ensures.1 (subst (λ (l : List Cluster). IsAt l place c.args.name) (sym c.as_slice-2.ensures) at))
