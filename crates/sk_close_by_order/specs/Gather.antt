-- What a turn gathers from the index: the first pair, or the triples that aren't kept yet.
use Rattle.std.specs.Prelude.{◌≡◌, ◌↔◌, List, Some, Contains, AllPairs}
use Rattle.sk_base.specs.declared.Elem.{Elem}
use Rattle.sk_base.specs.declared.Name.{Name}
use Rattle.sk_base.specs.declared.Graph.{Graph}
use Rattle.sk_base.specs.ClusterNames.{IsBelow}
use Rattle.sk_family.specs.declared.Cluster.{Cluster}
use Rattle.sk_family.specs.Clusters.{Clusters, IsNamed}
use Rattle.sk_family.specs.declared.Merge.{Merge}
use Rattle.sk_neighbours.specs.declared.Index.{Index}
use Rattle.sk_neighbours.specs.Partners.{IsLeast, Partner}
use Rattle.sk_rules.specs.Merges.{TakesFrom}
use Rattle.sk_open_triples.specs.MergeOrder.{ComesFirst}

-- the name is that of a cluster of the family that is below another and holds some of these elements
abbrev pub HoldsSome : Clusters → List Elem → Name → Name → Type 0
HoldsSome f es bound n = (c : Cluster) × IsNamed f n c × IsBelow n bound × ((e : Elem) × Contains es e × Contains c.elements e)

-- some cluster of these, with one of its partners
pub record IsPartner (ix : Index) (clusters : List Cluster) (x y : Name) : Type 0 where
  pub greater : Cluster
  pub among : Contains clusters greater
  pub has_name : greater.name ≡ x
  pub least : IsLeast (Partner ix greater) (Some y)
  -- and no cluster before it has one
  pub first : (c : Cluster) (n : Name) → Contains clusters c → IsBelow c.name x → ¬ Partner ix c n

-- a triple whose greatest cluster isn't below the name
abbrev pub IsUncovered : Graph → Clusters → Name → Merge → Type 0
IsUncovered g f bound m = (x : Cluster) × (Contains f.live x × ¬ IsBelow x.name bound) × TakesFrom g f x m

-- just those, in order
pub record AreUncovered (g : Graph) (f : Clusters) (bound : Name) (found : List Merge) : Type 0 where
  pub in_order : AllPairs ComesFirst found
  pub exactly : (m : Merge) → Contains found m ↔ IsUncovered g f bound m
