-- Families with starting clusters put in.
use Rattle.std.specs.Prelude.{◌≡◌, ◌≢◌, ◌↔◌, ◌⊎◌, ◌+◌, ◌≤◌, length, Contains}
use Rattle.sk_base.specs.declared.Name.{Name}
use Rattle.sk_base.specs.declared.Name.TheVariants.{Con}
use Rattle.sk_base.specs.declared.ConId.{ConId}
use Rattle.sk_base.specs.declared.Edge.{Edge}
use Rattle.sk_base.specs.declared.Block.{Block}
use Rattle.sk_base.specs.declared.Graph.{Graph}
use Rattle.sk_family.specs.declared.cluster.Cluster.{Cluster}
use Rattle.sk_family.specs.Body.{Start, edge_start, block_start, starts}
use Rattle.sk_family.specs.Clusters.{Clusters, start_of, IsNamed}

-- the start is that of a block, or of a constraint between two elements
abbrev pub IsStartOf : Graph → Start → Type 0
IsStartOf g s = ((b : Block) × Contains g.blocks b × (block_start b ≡ s)) ⊎ ((e : Edge) × Contains g.edges e × (edge_start e ≡ s))

-- no live cluster owns the constraint or is named by it
abbrev pub IsFree : Clusters → ConId → Type 0
IsFree f k = (c : Cluster) → Contains f.live c → (¬ Contains c.owned k) × (c.name ≢ Con k.0)

-- the family with the constraint's starting cluster put in
pub record HasStart (s : Start) (old new : Clusters) : Type 0 where
  pub live : (c : Cluster) → Contains new.live c ↔ ((c ≡ start_of s) ⊎ Contains old.live c)
  pub next_step : new.next_step ≡ old.next_step

-- the cluster of that name owns the constraint, the graph has each other one that it owns, and with
-- the starts of these in its place there are fewer than 2^32 clusters
pub record CanBeDissolved (g : Graph) (f : Clusters) (n : Name) (k : ConId) : Type 0 where
  pub owner : Cluster
  pub named : IsNamed f n owner
  pub owns : Contains owner.owned k
  pub others : (j : ConId) → Contains owner.owned j → j ≢ k → (s : Start) × Contains (starts g) s × (s.number ≡ j)
  pub room : length f.live + length owner.owned ≤ 4294967297

-- the start of a constraint of the graph that the cluster owns, another than k
pub record IsOther (g : Graph) (owner : Cluster) (k : ConId) (s : Start) : Type 0 where
  pub is_start : Contains (starts g) s
  pub owned : Contains owner.owned s.number
  pub differs : s.number ≢ k

-- the family with the starting clusters of the owned constraints but k in the place of the cluster of
-- that name
pub record IsDissolved (g : Graph) (n : Name) (k : ConId) (old new : Clusters) : Type 0 where
  pub owner : Cluster
  pub named : IsNamed old n owner
  pub live : (c : Cluster) → Contains new.live c ↔ ((Contains old.live c × (c.name ≢ n)) ⊎ ((s : Start) × IsOther g owner k s × (c ≡ start_of s)))
  pub next_step : new.next_step ≡ old.next_step
