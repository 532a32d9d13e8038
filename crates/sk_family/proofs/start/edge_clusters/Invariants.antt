use Rattle.std.proofs.Common.{◌≡◌, take}
use Rattle.std.specs.Prelude.{map}
use Rattle.sk_base.specs.declared.Edge.{Edge}
use Rattle.sk_family.specs.Body.{edge_start}
use Rattle.sk_family.specs.Clusters.{start_of}
use Rattle.sk_family.proofs.start.edge_clusters.Given as goal

-- the edges so far have their clusters
abbrev pub invariant-loop-edge : goal.invariant-loop-edge
invariant-loop-edge l = l.all.items ≡ map (λ (e : Edge). start_of (edge_start e)) (take l.edge-index l.edges)
