-- A cluster that grows: which clusters it has taken in, and what may merge with it.
use Rattle.std.specs.Prelude.{◌≡◌, ◌≢◌, ◌↔◌, ◌<◌, Bool, List, Contains, All, AllPairs, length}
use Rattle.sk_base.specs.declared.Elem.{Elem}
use Rattle.sk_base.specs.declared.Name.{Name}
use Rattle.sk_base.specs.declared.Graph.{Graph}
use Rattle.sk_family.specs.declared.Cluster.{Cluster}
use Rattle.sk_family.specs.Clusters.{Clusters, IsLive, bodies, made_of, replaced, unnamed}
use Rattle.sk_rules.specs.Reach.{Reach}
use Rattle.sk_neighbours.specs.declared.Index.{Index}
use Rattle.sk_close_any_order.specs.declared.growth.Joining.{Joining}
use Rattle.sk_close_any_order.specs.declared.growth.Joining.TheVariants.{One, Both}
use Rattle.sk_neighbours.specs.Indexed.{IsHeld, IsThirdAt, Represents}
use Rattle.sk_triangles.specs.Marks.{IsMarked}

-- it is one of these, and marked
abbrev pub IsMarkedIn : List Bool → List Elem → Elem → Type 0
IsMarkedIn marks es e = Contains es e × IsMarked marks e

-- two of these are marked
abbrev pub MarksTwo : List Bool → List Elem → Type 0
MarksTwo marks es = (a : Elem) × (b : Elem) × (a ≢ b) × IsMarkedIn marks es a × IsMarkedIn marks es b

-- another cluster of that name holds b, and a marked third corner beside a and b
abbrev pub MeetsAt : Index → List Bool → Cluster → Elem → Elem → Name → Type 0
MeetsAt ix marks x a b n =
    (z : Cluster) × IsHeld ix z × (z.name ≡ n) × (n ≢ x.name) × (a ≢ b) × Contains z.elements b × ((c : Elem) × IsMarkedIn marks z.elements c × IsThirdAt ix a b c)

-- some corner of x leads to it
abbrev pub MakesThird : Index → List Bool → Cluster → Elem → Name → Type 0
MakesThird ix marks x a n = (b : Elem) × Contains x.elements b × MeetsAt ix marks x a b n

-- the clusters of the index with these names may merge with one that has the marked elements
abbrev pub Joins : Index → List Bool → Joining → Type 0
Joins ix marks (One n) = (x : Cluster) × IsHeld ix x × (x.name ≡ n) × MarksTwo marks x.elements
Joins ix marks (Both m n) = (x : Cluster) × IsHeld ix x × (x.name ≡ m) × ((a : Elem) × IsMarkedIn marks x.elements a × MakesThird ix marks x a n)

-- clusters of these names have left the index, and their elements are marked
pub record HasGrown (ix : Index) (g : Graph) (f : Clusters) (names : List Name) (marks : List Bool) : Type 0 where
  pub represents : Represents ix g (unnamed names f.live)
  pub marked : (e : Elem) → IsMarked marks e ↔ Contains (made_of names f.live).elements e
  pub all_live : All (λ n. IsLive f n) names
  pub differ : AllPairs (λ (m n : Name). m ≢ n) names

-- and merging leads to the family with what they make in their place
pub record IsGrown (ix : Index) (g : Graph) (f : Clusters) (names : List Name) (marks : List Bool) : Type 0 where
  pub has : HasGrown ix g f names marks
  pub at_least_two : 1 < length names
  pub reached : Reach g (bodies f) (bodies (replaced f names))
