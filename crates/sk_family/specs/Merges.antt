-- Merges of named clusters, as far as their names tell, and those of one cluster with lower ones.
use Rattle.std.specs.Prelude.{◌≡◌, ◌↔◌, List, [], ◌∷◌, length, Contains}
use Rattle.sk_base.specs.declared.Name.{Name}
use Rattle.sk_base.specs.declared.Graph.{Graph}
use Rattle.sk_base.specs.ClusterNames.{IsBelow}
use Rattle.sk_family.specs.declared.cluster.Cluster.{Cluster}
use Rattle.sk_family.specs.declared.merge.Merge.{Merge}
use Rattle.sk_family.specs.declared.merge.Merge.TheVariants.{Two, Three}
use Rattle.sk_family.specs.Rules.{MeetsInThree, SharesTwo}

abbrev pub names_of : Merge → List Name
names_of (Two x y) = x ∷ y ∷ []
names_of (Three x y z) = x ∷ y ∷ z ∷ []

-- the first name, which is above the others where they fall
abbrev pub greatest_of : Merge → Name
greatest_of (Two x y) = x
greatest_of (Three x y z) = x

-- each name is above the next
abbrev pub Falls : Merge → Type 0
Falls (Two x y) = IsBelow y x
Falls (Three x y z) = IsBelow y x × IsBelow z y

-- the merge of these names, with each of them once
pub record IsMergeOf (names : List Name) (m : Merge) : Type 0 where
  pub falls : Falls m
  pub as_many : length (names_of m) ≡ length names
  pub same : (n : Name) → Contains (names_of m) n ↔ Contains names n

-- the name of a lower one of these clusters that shares two elements with that one
abbrev pub IsPairFrom : List Cluster → Cluster → Name → Type 0
IsPairFrom live x n = (y : Cluster) × Contains live y × IsBelow y.name x.name × SharesTwo x.elements y.elements × (y.name ≡ n)

-- the triple of that cluster and two lower ones of these, where the three meet
abbrev pub IsTripleFrom : Graph → List Cluster → Cluster → Merge → Type 0
IsTripleFrom g live x m =
    (y : Cluster) × (z : Cluster) × Contains live y × Contains live z × IsBelow y.name x.name × IsBelow z.name y.name × MeetsInThree g x.elements y.elements z.elements × (m ≡ Three x.name y.name z.name)
