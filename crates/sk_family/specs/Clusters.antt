-- A family as contracts see it.
use Rattle.std.specs.Prelude.{◌≡◌, ◌≢◌, ◌⊎◌, ◌+◌, ◌<◌, ◌^◌, ℕ, not, List, [], ◌∷◌, ◌++◌, length, map, filter, All, AllPairs, Contains, Some, slice_get}
use Rattle.sk_base.specs.declared.Name.{Name}
use Rattle.sk_base.specs.declared.Name.TheVariants.{Con, Step}
use Rattle.sk_base.specs.declared.ConId.{ConId}
use Rattle.sk_base.specs.declared.Elem.{Elem}
use Rattle.sk_base.specs.declared.Graph.{Graph}
use Rattle.sk_base.specs.ClusterNames.{IsBelow, is_named}
use Rattle.sk_family.specs.declared.cluster.Cluster.{Cluster}
use Rattle.sk_family.specs.Body.{Body, Start, IsRisingBody, join, join_all, starting, starts}

-- the live clusters by rising name, and the next step's number
pub record Clusters : Type 0 where
  pub live : List Cluster
  pub next_step : ℕ

abbrev pub body_of : Cluster → Body
body_of c = record { elements = c.elements; owned = c.owned }

abbrev pub cluster_of : Name → Body → Cluster
cluster_of n b = record { name = n; elements = b.elements; owned = b.owned }

abbrev pub bodies : Clusters → List Body
bodies f = map body_of f.live

-- their names, which rise
abbrev pub live_names : Clusters → List Name
live_names f = map (λ (c : Cluster). c.name) f.live

-- a constraint's starting cluster, named by it
abbrev pub start_of : Start → Cluster
start_of s = cluster_of (Con s.number.0) (starting s)

abbrev pub initial_clusters : Graph → Clusters
initial_clusters g = record { live = map start_of (starts g); next_step = 1 }

-- those of the clusters with these names, and the others
abbrev pub named : List Name → List Cluster → List Cluster
named names clusters = filter (λ (c : Cluster). is_named names c.name) clusters

abbrev pub unnamed : List Name → List Cluster → List Cluster
unnamed names clusters = filter (λ (c : Cluster). not (is_named names c.name)) clusters

-- what those of these names make together
abbrev pub made_of : List Name → List Cluster → Body
made_of names clusters = join_all (map body_of (named names clusters))

-- the one cluster that they make
abbrev pub whole_from : Name → List Name → List Cluster → Cluster
whole_from name names clusters = cluster_of name (made_of names clusters)

-- the family with that cluster in their place, named by the next step
abbrev pub replaced : Clusters → List Name → Clusters
replaced f names = record {
  live = unnamed names f.live ++ whole_from (Step f.next_step) names f.live ∷ [];
  next_step = f.next_step + 1;
}

-- the live cluster of that name
pub record IsNamed (f : Clusters) (n : Name) (c : Cluster) : Type 0 where
  pub lives : Contains f.live c
  pub has_name : c.name ≡ n

abbrev pub IsLive : Clusters → Name → Type 0
IsLive f n = (c : Cluster) × IsNamed f n c

-- the cluster of that name has some element
abbrev pub HasElements : Clusters → Name → Type 0
HasElements f n = (c : Cluster) → IsNamed f n c → (e : Elem) × Contains c.elements e

-- the name isn't above that of the next step
abbrev pub IsWithin : Clusters → Name → Type 0
IsWithin f bound = ¬ IsBelow (Step f.next_step) bound

-- the cluster of that name is joined to the body, or none has it and the body stays
abbrev pub AddsNamed : List Cluster → Name → Body → Body → Type 0
AddsNamed clusters n old new =
    ((c : Cluster) × Contains clusters c × (c.name ≡ n) × (new ≡ join (body_of c) old)) ⊎ (((c : Cluster) → Contains clusters c → c.name ≢ n) × (new ≡ old))

-- a cluster of that name stands at the place
abbrev pub IsAt : List Cluster → ℕ → Name → Type 0
IsAt clusters place n = (c : Cluster) × (slice_get clusters place ≡ Some c) × (c.name ≡ n)

-- they are two or three, all live, and no two of them the same
pub record CanBeReplaced (f : Clusters) (names : List Name) : Type 0 where
  pub two_or_three : (length names ≡ 2) ⊎ (length names ≡ 3)
  pub all_live : All (λ n. IsLive f n) names
  pub differ : AllPairs (λ (m n : Name). m ≢ n) names

abbrev pub ByName : Cluster → Cluster → Type 0
ByName a b = IsBelow a.name b.name

-- what every family keeps to
pub record IsSound (f : Clusters) : Type 0 where
  pub few : length f.live < 2 ^ 32
  pub names_rise : AllPairs (λ (a b : Cluster). IsBelow a.name b.name) f.live
  pub bodies_rise : (c : Cluster) → Contains f.live c → IsRisingBody (body_of c)
  pub each_owns : (c : Cluster) → Contains f.live c → (k : ConId) × Contains c.owned k
  pub owned_apart : (a b : Cluster) (k : ConId) → Contains f.live a → Contains f.live b → Contains a.owned k → Contains b.owned k → a ≡ b
  pub starts_own_their_own : (c : Cluster) (k : ℕ) → Contains f.live c → c.name ≡ Con k → c.owned ≡ record { 0 = k } ∷ []
  pub steps_below : (c : Cluster) (k : ℕ) → Contains f.live c → c.name ≡ Step k → k < f.next_step
  pub merged_own_two : (c : Cluster) (k : ℕ) → Contains f.live c → c.name ≡ Step k → 1 < length c.owned
