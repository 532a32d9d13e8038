-- What the index of a family holds.
use Rattle.std.specs.Prelude.{◌≡◌, ◌↔◌, ◌⊎◌, ◌++◌, ℕ, Bool, List, [], ◌∷◌, Option, None, Some, Contains, AllPairs, length, ◌-◌, slice_get}
use Rattle.slab.specs.Slab.{Slab, get}
use Rattle.sk_base.specs.declared.Name.{Name}
use Rattle.sk_base.specs.declared.Elem.{Elem}
use Rattle.sk_base.specs.declared.Graph.{Graph}
use Rattle.sk_base.specs.declared.Kind.TheVariants.{Line}
use Rattle.sk_base.specs.ClusterNames.{IsBelow}
use Rattle.sk_base.specs.Numbering.{elem_number}
use Rattle.sk_base.specs.Rising.{IsRising}
use Rattle.sk_base.specs.SoundGraph.{HasNode}
use Rattle.sk_family.specs.declared.Cluster.{Cluster}
use Rattle.sk_neighbours.specs.declared.index.Index.{Index}
use Rattle.sk_triangles.specs.Marks.{IsMarked, IsThird}

-- the keys of the clusters that hold the element
abbrev pub keys_in : Option (List ℕ) → List ℕ
keys_in None = []
keys_in (Some keys) = keys

abbrev pub holders_of : Index → Elem → List ℕ
holders_of ix e = keys_in (slice_get ix.holders.items e.0)

-- the cluster of that key
abbrev pub cluster_at : Index → ℕ → Option Cluster
cluster_at ix k = get ix.live k

-- some key leads to the cluster
abbrev pub IsHeld : Index → Cluster → Type 0
IsHeld ix c = (k : ℕ) × (cluster_at ix k ≡ Some c)

-- the cluster of the key has the name
abbrev pub IsNamedAt : Index → Name → ℕ → Type 0
IsNamedAt ix n k = (c : Cluster) × (cluster_at ix k ≡ Some c) × (c.name ≡ n)

-- the marks of the elements that are lines
abbrev pub lines_in : Index → List Bool
lines_in ix = ix.lines.items

abbrev pub IsLineAt : Index → Elem → Type 0
IsLineAt ix e = IsMarked (lines_in ix) e

-- the same elements are
abbrev pub KeepsLines : Index → Index → Type 0
KeepsLines old new = new.lines ≡ old.lines

-- the elements of each cluster rise
abbrev pub AllRise : List Cluster → Type 0
AllRise clusters = (c : Cluster) → Contains clusters c → IsRising elem_number c.elements

abbrev pub IsLast : List Cluster → Cluster → Type 0
IsLast clusters c = slice_get clusters (length clusters - 1) ≡ Some c

-- c can be the third corner beside a and b
abbrev pub IsThirdAt : Index → Elem → Elem → Elem → Type 0
IsThirdAt ix a b c = IsThird (lines_in ix) a b c

-- the cluster of the one key is below that of the other
abbrev pub RisesIn : Slab Cluster → ℕ → ℕ → Type 0
RisesIn live j k = (c d : Cluster) → get live j ≡ Some c → get live k ≡ Some d → IsBelow c.name d.name

-- the cluster of the key is below the name
abbrev pub IsBelowAt : Index → Name → ℕ → Type 0
IsBelowAt ix n k = (c : Cluster) × (cluster_at ix k ≡ Some c) × IsBelow c.name n

-- the keys of an element are the same, or there is one more behind them
abbrev pub HoldersGrow : Index → Index → ℕ → Elem → Type 0
HoldersGrow old new key e = (holders_of new e ≡ holders_of old e) ⊎ (holders_of new e ≡ holders_of old e ++ key ∷ [])

-- each element leads to the keys of just those that hold it, in order, each has one key, and their
-- elements rise
pub record IsIndex (ix : Index) : Type 0 where
  pub leads : (e : Elem) (k : ℕ) → Contains (holders_of ix e) k → (c : Cluster) × (cluster_at ix k ≡ Some c) × Contains c.elements e
  pub finds : (e : Elem) (k : ℕ) (c : Cluster) → cluster_at ix k ≡ Some c → Contains c.elements e → Contains (holders_of ix e) k
  pub in_order : (e : Elem) → AllPairs (RisesIn ix.live) (holders_of ix e)
  pub once : (j k : ℕ) (c : Cluster) → cluster_at ix j ≡ Some c → cluster_at ix k ≡ Some c → j ≡ k
  pub rises : (c : Cluster) → IsHeld ix c → IsRising elem_number c.elements

-- the index stands for just these clusters, and the lines are those of the graph
pub record Represents (ix : Index) (g : Graph) (live : List Cluster) : Type 0 where
  pub index : IsIndex ix
  pub held : (c : Cluster) → IsHeld ix c ↔ Contains live c
  pub lines : (e : Elem) → IsLineAt ix e ↔ HasNode g e Line
