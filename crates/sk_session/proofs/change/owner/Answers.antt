use Rattle.std.proofs.Common.{sym, subst}
use Rattle.std.specs.Prelude.{Contains, List}
use Rattle.sk_family.specs.declared.Cluster.{Cluster}
use Rattle.sk_session.proofs.change.owner.Goals as goal

pub unreachable-requires : goal.unreachable-requires
unreachable-requires c =
    c.in-None.ensures.none c.requires.0 (subst (λ (cs : List Cluster). Contains cs c.requires.0) (sym c.clusters.ensures.live) c.requires.1) c.requires.2
