-- What is known of a family that is being closed in any order.
use Rattle.std.specs.Prelude.{◌≡◌, ◌⊎◌, List, Option, None, Some, Contains}
use Rattle.sk_base.specs.declared.Name.{Name}
use Rattle.sk_base.specs.declared.Graph.{Graph}
use Rattle.sk_base.specs.ClusterNames.{IsBelow}
use Rattle.sk_family.specs.declared.Cluster.{Cluster}
use Rattle.sk_family.specs.Clusters.{Clusters}
use Rattle.sk_family.specs.declared.Merge.{Merge}
use Rattle.sk_family.specs.declared.Merge.TheVariants.{Two}
use Rattle.sk_family.specs.Merges.{greatest_of}
use Rattle.sk_neighbours.specs.declared.Index.{Index}
use Rattle.sk_rules.specs.Merges.{CanTake}
use Rattle.sk_neighbours.specs.Partners.{Partner}
use Rattle.sk_neighbours.specs.Triples.{TriplesOf}

-- no merge whose greatest cluster is below the name may be taken
abbrev pub IsSettledBelow : Graph → Clusters → Name → Type 0
IsSettledBelow g f bound = (m : Merge) → CanTake g f m → ¬ IsBelow (greatest_of m) bound

-- a merge of that cluster with clusters below it, as a walk through the index finds it
abbrev pub MergesOf : Index → Cluster → Merge → Type 0
MergesOf ix x m = ((n : Name) × Partner ix x n × (m ≡ Two x.name n)) ⊎ TriplesOf ix x m

-- one of that kind, if there is one
abbrev pub IsAny : (Merge → Type 0) → Option Merge → Type 0
IsAny kind None = (m : Merge) → ¬ kind m
IsAny kind (Some m) = kind m

-- a merge of one of these clusters, where those before it have none
pub record IsNextMerge (ix : Index) (clusters : List Cluster) (m : Merge) : Type 0 where
  pub greatest : Cluster
  pub among : Contains clusters greatest
  pub merges : MergesOf ix greatest m
  pub first : (c : Cluster) (n : Merge) → Contains clusters c → IsBelow c.name greatest.name → ¬ MergesOf ix c n

-- such a merge, if there is one
abbrev pub IsNext : Index → List Cluster → Option Merge → Type 0
IsNext ix clusters None = (c : Cluster) (m : Merge) → Contains clusters c → ¬ MergesOf ix c m
IsNext ix clusters (Some m) = IsNextMerge ix clusters m
