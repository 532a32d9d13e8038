use Rattle.std.proofs.Common.{◌≤◌, length, List, take, subst, arith}
use Rattle.std.specs.Prelude.{Contains, ◌↔◌}
use Rattle.sk_base.specs.declared.ConId.{ConId}
use Rattle.sk_family.specs.declared.Cluster.{Cluster}
use Rattle.sk_spare.specs.Sparing.{IsSpare}
use Rattle.sk_spare.proofs.Deciding.{IsOwnedBy, found_of_one, all_found}
use Rattle.sk_spare.proofs.spares.found_in.Goals as goal

pub loop-cluster-preserved : goal.loop-cluster-preserved
loop-cluster-preserved c =
    found_of_one (λ k. IsSpare c.args.graph.now k) c.clusters-cluster-items.result.now c.loop-cluster.cluster-index c.cluster-item.result c.loop-cluster-test.true c.cluster-item.is
    c.loop-cluster.found c.try_owned.new.found c.loop-cluster.invariant c.in_ok-try_owned.ensures

pub returns : goal.returns
returns c =
    let live = c.clusters-cluster-items.ensures.live in
    let i = c.loop-cluster.cluster-index in
    all_found c.args.graph.now c.args.family.now c.requires.sound c.requires.normal i c.loop-cluster.found
    (subst (λ (cs : List Cluster). length cs ≤ i) live (omega (arith, c.loop-cluster-test.false)))
    (subst (λ (cs : List Cluster). (k : ConId) → Contains c.loop-cluster.found k ↔ (IsOwnedBy (take i cs) k × IsSpare c.args.graph.now k)) live c.loop-cluster.invariant)
