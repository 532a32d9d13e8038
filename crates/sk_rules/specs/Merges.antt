-- Merges of named clusters.
use Rattle.std.specs.Prelude.{◌≡◌, ◌<◌, ◌≤◌, ◌⊎◌, List, None, Some}
use Rattle.sk_base.specs.declared.Name.{Name}
use Rattle.sk_base.specs.declared.Elem.{Elem}
use Rattle.sk_base.specs.declared.Graph.{Graph}
use Rattle.sk_family.specs.declared.Cluster.{Cluster}
use Rattle.sk_family.specs.Clusters.{Clusters, IsNamed, replaced}
use Rattle.sk_family.specs.declared.Merge.{Merge}
use Rattle.sk_family.specs.declared.Merge.TheVariants.{Two, Three}
use Rattle.sk_family.specs.Merges.{Falls, names_of}
use Rattle.sk_rules.specs.declared.merge.Shared.{Shared}
use Rattle.sk_family.specs.Rules.{IsShared, IsPair, SharesTwo, IsTriangle, MeetsInThree}

-- the clusters live, and the rule holds of them
abbrev pub Holds : Graph → Clusters → Merge → Type 0
Holds g f (Two x y) = (a : Cluster) × (b : Cluster) × IsNamed f x a × IsNamed f y b × SharesTwo a.elements b.elements
Holds g f (Three x y z) = (a : Cluster) × (b : Cluster) × (c : Cluster) × IsNamed f x a × IsNamed f y b × IsNamed f z c × MeetsInThree g a.elements b.elements c.elements

-- the names fall and the rule holds
abbrev pub CanTake : Graph → Clusters → Merge → Type 0
CanTake g f m = Falls m × Holds g f m

-- the triples with that cluster as the greatest that may merge
abbrev pub TakesFrom : Graph → Clusters → Cluster → Merge → Type 0
TakesFrom g f x m = CanTake g f m × ((y : Name) × (z : Name) × (m ≡ Three x.name y z))

-- the family after the merge
abbrev pub merged : Clusters → Merge → Clusters
merged f m = replaced f (names_of m)

-- the least two elements that are in both
pub record IsLeastPair (xs ys : List Elem) (a b : Elem) : Type 0 where
  pub pair : IsPair xs ys a b
  pub ascends : a.0 < b.0
  pub least : (e : Elem) → IsShared xs ys e → (e ≡ a) ⊎ (b.0 ≤ e.0)

-- p, q, r come before a, b, c, compared place by place
abbrev pub ComesBefore : Elem → Elem → Elem → Elem → Elem → Elem → Type 0
ComesBefore p q r a b c = (p.0 < a.0) ⊎ ((p ≡ a) × ((q.0 < b.0) ⊎ ((q ≡ b) × (r.0 < c.0))))

-- the least triangle
pub record IsLeastTriangle (g : Graph) (xs ys zs : List Elem) (a b c : Elem) : Type 0 where
  pub triangle : IsTriangle g xs ys zs a b c
  pub least : (p q r : Elem) → IsTriangle g xs ys zs p q r → ¬ ComesBefore p q r a b c

-- the least elements by which the merge's rule holds
abbrev pub IsLeastShared : Graph → Clusters → Merge → Shared → Type 0
IsLeastShared g f (Two x y) s =
    (a : Cluster) × (b : Cluster) × IsNamed f x a × IsNamed f y b × IsLeastPair a.elements b.elements s.a s.b × (s.c ≡ None)
IsLeastShared g f (Three x y z) s =
    (a : Cluster) × (b : Cluster) × (c : Cluster) × IsNamed f x a × IsNamed f y b × IsNamed f z c
    × ((e : Elem) × (s.c ≡ Some e) × IsLeastTriangle g a.elements b.elements c.elements s.a s.b e)
