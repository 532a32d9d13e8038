use Rattle.std.proofs.Common.{get_or}
use Rattle.std.proofs.lemmas.List.Elements.{Contains-get_or}
use Rattle.sk_base.proofs.Searches.{if_none, refused}
use Rattle.sk_family.proofs.Halving.{none_past, none_other}
use Rattle.sk_family.proofs.family.find.Goals as goal

pub returns-in_err-cluster-clause-none : goal.returns-in_err-cluster-clause-none
returns-in_err-cluster-clause-none c =
    if_none c.from_residual.result (λ k d k_in.
    none_past c.args.clusters.now c.args.name c.count_below-place.result c.count_below-place.ensures.before c.count_below-place.ensures.after c.in_err-cluster.ensures.lookup.3
    (get_or c.args.clusters.now k d) (Contains-get_or c.args.clusters.now k d k_in))

pub returns-else-has_name-clause-none : goal.returns-else-has_name-clause-none
returns-else-has_name-clause-none c k d k_in =
    none_other c.args.clusters.now c.args.name c.count_below-place.result c.count_below-place.ensures.before c.count_below-place.ensures.after c.requires c.in_ok-cluster.ensures.lookup.3.0
    c.in_ok-cluster.cluster.now c.in_ok-cluster.ensures.lookup.1 (refused c.if-has_name.ensures.1) (get_or c.args.clusters.now k d) (Contains-get_or c.args.clusters.now k d k_in)
