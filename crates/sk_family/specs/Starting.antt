-- The starting clusters of some constraints of a graph.
use Rattle.std.specs.Prelude.{◌==◌, not, List, [], map, filter, find, unwrap_or}
use Rattle.sk_base.specs.declared.ConId.{ConId}
use Rattle.sk_base.specs.declared.Graph.{Graph}
use Rattle.sk_family.specs.declared.cluster.Cluster.{Cluster}
use Rattle.sk_family.specs.Body.{Start, starts}
use Rattle.sk_family.specs.Clusters.{start_of}

-- some start, where a graph has none
abbrev pub any_start : Start
any_start = record { number = record { 0 = 0 }; elements = [] }

-- what the constraint of that number starts with
abbrev pub start_with : Graph → ConId → Start
start_with g k = unwrap_or (find (λ (s : Start). s.number.0 == k.0) (starts g)) any_start

-- the starting clusters of the constraints of these numbers but k
abbrev pub starts_but : Graph → ConId → List ConId → List Cluster
starts_but g k numbers = map (λ j. start_of (start_with g j)) (filter (λ (j : ConId). not (j.0 == k.0)) numbers)
