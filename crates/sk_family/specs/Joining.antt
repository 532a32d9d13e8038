-- Which clusters can be made one at once.
use Rattle.std.specs.Prelude.{◌≡◌, ◌≢◌, ◌↔◌, ◌<◌, List, length, map, All, AllPairs, Contains}
use Rattle.sk_base.specs.declared.Name.{Name}
use Rattle.sk_family.specs.declared.cluster.Cluster.{Cluster}
use Rattle.sk_family.specs.Clusters.{Clusters, named, IsLive}

-- they are at least two, all live, and no two of them the same
pub record CanBeJoined (f : Clusters) (names : List Name) : Type 0 where
  pub at_least_two : 1 < length names
  pub all_live : All (λ n. IsLive f n) names
  pub differ : AllPairs (λ (m n : Name). m ≢ n) names

-- they are the names of those of the clusters that they name, in the clusters' order
abbrev pub AreNamesOf : List Name → List Cluster → Type 0
AreNamesOf names clusters = names ≡ map (λ (c : Cluster). c.name) (named names clusters)

-- the two have the same items
abbrev pub HaveTheSame : {X : Type 0} → List X → List X → Type 0
HaveTheSame {X} xs ys = (x : X) → Contains xs x ↔ Contains ys x
