-- Which clusters of an index share two elements with one, and the least name of some.
use Rattle.std.specs.Prelude.{◌≡◌, ◌≢◌, ◌⊎◌, ℕ, List, Option, None, Some, Contains}
use Rattle.sk_base.specs.declared.Elem.{Elem}
use Rattle.sk_base.specs.declared.Name.{Name}
use Rattle.sk_base.specs.ClusterNames.{IsBelow}
use Rattle.sk_triangles.specs.Growing.{FromSome}
use Rattle.sk_family.specs.declared.Cluster.{Cluster}
use Rattle.sk_family.specs.Rules.{SharesTwo}
use Rattle.sk_neighbours.specs.declared.index.Index.{Index}
use Rattle.sk_neighbours.specs.Indexed.{IsBelowAt, IsHeld, cluster_at, holders_of}

-- e isn't a, and is one of these
abbrev pub IsOther : List Elem → Elem → Elem → Type 0
IsOther xs a e = (e ≢ a) × Contains xs e

-- the name is that of a cluster of the index below x that shares two elements with it
abbrev pub Partner : Index → Cluster → Name → Type 0
Partner ix x n = (y : Cluster) × IsHeld ix y × IsBelow y.name x.name × SharesTwo x.elements y.elements × (y.name ≡ n)

-- and that holds e
abbrev pub PartnerOf : Index → Cluster → Elem → Name → Type 0
PartnerOf ix x e n = (y : Cluster) × IsHeld ix y × Contains y.elements e × IsBelow y.name x.name × SharesTwo x.elements y.elements × (y.name ≡ n)

-- where e is another element than that one
abbrev pub PartnerUnless : Option Elem → Index → Cluster → Elem → Name → Type 0
PartnerUnless hub ix x e n = (hub ≢ Some e) × PartnerOf ix x e n

-- the cluster of that key shares two elements with x, and is so named
abbrev pub PartnerAt : Index → Cluster → ℕ → Name → Type 0
PartnerAt ix x k n = (y : Cluster) × (cluster_at ix k ≡ Some y) × SharesTwo x.elements y.elements × (y.name ≡ n)

-- what some key of a cluster that holds e and is below x gives
abbrev pub PartnerBy : Index → Cluster → Elem → Name → Type 0
PartnerBy ix x e = FromSome (λ k n. IsBelowAt ix x.name k × PartnerAt ix x k n) (holders_of ix e)

-- the least name of that kind, if there is one
abbrev pub IsLeast : (Name → Type 0) → Option Name → Type 0
IsLeast kind None = (n : Name) → ¬ kind n
IsLeast kind (Some m) = kind m × ((n : Name) → kind n → ¬ IsBelow n m)

-- the lesser of the two that are there
abbrev pub IsLesser : Option Name → Option Name → Option Name → Type 0
IsLesser None two r = r ≡ two
IsLesser (Some m) None r = r ≡ Some m
IsLesser (Some m) (Some n) r = ((r ≡ Some n) × IsBelow n m) ⊎ ((r ≡ Some m) × ¬ IsBelow n m)
