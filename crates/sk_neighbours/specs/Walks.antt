-- What a walk through the index finds at the clusters that hold an element.
use Rattle.std.specs.Prelude.{◌≡◌, ℕ, Some, Contains}
use Rattle.sk_base.specs.declared.Elem.{Elem}
use Rattle.sk_base.specs.declared.Name.{Name}
use Rattle.sk_base.specs.ClusterNames.{IsBelow}
use Rattle.sk_family.specs.declared.Cluster.{Cluster}
use Rattle.sk_neighbours.specs.declared.index.Index.{Index}
use Rattle.sk_neighbours.specs.Indexed.{IsHeld, cluster_at}

-- the name is that of a cluster that is below another and holds the element
abbrev pub HolderOf : Index → Name → Elem → Name → Type 0
HolderOf ix bound e n = (c : Cluster) × IsHeld ix c × Contains c.elements e × IsBelow c.name bound × (c.name ≡ n)

-- what is kept of the element and some cluster that holds it and is below the name
abbrev pub AtElement : {M : Type 0} → (Elem → Cluster → M → Type 0) → Index → Name → Elem → M → Type 0
AtElement keeps ix bound e m = (y : Cluster) × IsHeld ix y × Contains y.elements e × IsBelow y.name bound × keeps e y m

-- what is kept of the element and the cluster of that key
abbrev pub AtKey : {M : Type 0} → (Elem → Cluster → M → Type 0) → Index → Elem → ℕ → M → Type 0
AtKey keeps ix e k m = (y : Cluster) × (cluster_at ix k ≡ Some y) × keeps e y m
