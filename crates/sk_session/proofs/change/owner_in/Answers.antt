use Rattle.std.proofs.Common.{sym, subst}
use Rattle.std.specs.Prelude.{Contains}
use Rattle.sk_family.specs.declared.Cluster.{Cluster}
use Rattle.sk_base.proofs.Searches.{none_more, none_at_all, refused}
use Rattle.sk_session.proofs.change.owner_in.Goals as goal

pub loop-cluster-preserved : goal.loop-cluster-preserved
loop-cluster-preserved c =
    none_more (λ (x : Cluster). Contains x.owned c.args.number) c.args.clusters.now c.loop-cluster.cluster-index c.loop-cluster.invariant c.cluster-item.result c.loop-cluster-test.true
    (λ h. refused c.if-owns.ensures.1 (subst (λ (x : Cluster). Contains x.owned c.args.number) (sym c.cluster-item.is) h))

pub returns-clause-none : goal.returns-clause-none
returns-clause-none c =
    none_at_all (λ (x : Cluster). Contains x.owned c.args.number) c.args.clusters.now c.loop-cluster.cluster-index c.loop-cluster.invariant c.loop-cluster-test.false
