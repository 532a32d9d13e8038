use Rattle.std.specs.Prelude.{Contains}
use Rattle.sk_family.specs.declared.Cluster.{Cluster}
use Rattle.sk_base.proofs.Searches.{NoneBefore}
use Rattle.sk_session.proofs.change.owner_in.Given as goal

-- none so far owns it
abbrev pub invariant-loop-cluster : goal.invariant-loop-cluster
invariant-loop-cluster l = NoneBefore (λ (c : Cluster). Contains c.owned l.number) l.clusters l.cluster-index
