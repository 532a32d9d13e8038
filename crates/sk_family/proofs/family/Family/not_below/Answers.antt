use Rattle.std.proofs.Common.{◌≡◌, ◌∙◌, ap, sym, subst, List}
use Rattle.std.specs.Prelude.{Contains, AllPairs}
use Rattle.sk_family.specs.declared.cluster.Cluster.{Cluster}
use Rattle.sk_family.specs.Clusters.{Clusters, ByName}
use Rattle.sk_family.proofs.Halving.{in_rest, rest_rises}
use Rattle.sk_family.proofs.family.Family.not_below.Goals as goal

pub returns-clause-live : goal.returns-clause-live
returns-clause-live c x =
    let live : c.as_slice-clusters.result.now ≡ c.args.self.now.live = c.as_slice-clusters.ensures ∙ ap (λ (f : Clusters). f.live) c.self.view_is in
    let rest = in_rest c.as_slice-clusters.result.now c.args.name c.count_below.result c.count_below.ensures.before c.count_below.ensures.after x in (
      (λ h. (subst (λ (l : List Cluster). Contains l x) live (rest.0 h).0, (rest.0 h).1)),
      (λ (x_in, above). rest.1 (subst (λ (l : List Cluster). Contains l x) (sym live) x_in, above)),
    )

pub returns-clause-rise : goal.returns-clause-rise
returns-clause-rise c =
    rest_rises c.as_slice-clusters.result.now c.args.name c.count_below.result c.count_below.ensures.before c.count_below.ensures.after
    (subst (λ (l : List Cluster). AllPairs ByName l) (sym c.as_slice-clusters.ensures) c.self.invariant.names_rise)
