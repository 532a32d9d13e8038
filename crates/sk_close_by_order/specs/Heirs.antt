-- How the one cluster that isn't covered came about: it has what a covered one had, its core, and fresh elements.
use Rattle.std.specs.Prelude.{◌≡◌, ◌≢◌, ◌↔◌, ◌⊎◌, List, Contains, Option, None, Some}
use Rattle.sk_base.specs.declared.Elem.{Elem}
use Rattle.sk_base.specs.declared.Name.{Name}
use Rattle.sk_base.specs.declared.Name.TheVariants.{Step}
use Rattle.sk_base.specs.declared.Graph.{Graph}
use Rattle.sk_base.specs.ClusterNames.{IsBelow}
use Rattle.sk_family.specs.declared.Cluster.{Cluster}
use Rattle.sk_family.specs.Clusters.{Clusters, IsLive, IsNamed}
use Rattle.sk_family.specs.declared.Merge.{Merge}
use Rattle.sk_family.specs.Rules.{SharesTwo, MeetsInThree}
use Rattle.sk_neighbours.specs.declared.Index.{Index}
use Rattle.sk_open_triples.specs.declared.Heir.{Heir}
use Rattle.sk_open_triples.specs.Inherited.{Inherits, IsBeside}
use Rattle.sk_triangles.specs.Growing.{FromSome}
use Rattle.sk_neighbours.specs.declared.Third.TheVariants.{Either}
use Rattle.sk_neighbours.specs.Partners.{Partner, PartnerOf}
use Rattle.sk_neighbours.specs.Triples.{AtCorner}
use Rattle.sk_close_by_order.specs.Gather.{IsUncovered}

-- the element is that one, and not among these
abbrev pub MissesSome : List Elem → Elem → Elem → Type 0
MissesSome many elem e = (e ≡ elem) × ¬ Contains many e

-- some kept triple has the name and those two
abbrev pub IsKeptWith : List Merge → Name → Name → Name → Type 0
IsKeptWith kept n p q = (t : Merge) × Contains kept t × IsBeside t n p q

-- another name than that, of a cluster that lives or is among those that are gone
abbrev pub IsNoHeir : Clusters → List Name → Name → Name → Type 0
IsNoHeir f gone name n = (n ≢ name) × (IsLive f n ⊎ Contains gone n)

-- the cluster of the name has the elements of a part and fresh ones; every other is covered, shares no two
-- elements with the part, and makes a triangle with it and another just where a triple of the core is kept
pub record IsHeir (g : Graph) (f : Clusters) (covered : Name) (kept : List Merge) (gone : List Name) (heir : Heir) (fresh : List Elem) : Type 0 where
  pub part : List Elem
  pub lives : IsLive f heir.name
  pub whole : (w : Cluster) → IsNamed f heir.name w → (e : Elem) → Contains w.elements e ↔ (Contains part e ⊎ Contains fresh e)
  pub alone : (c : Cluster) → Contains f.live c → c.name ≢ heir.name → IsBelow c.name covered
  pub no_pair : (c : Cluster) → Contains f.live c → c.name ≢ heir.name → ¬ SharesTwo part c.elements
  pub had : (c d : Cluster) → Contains f.live c → Contains f.live d → c.name ≢ heir.name → d.name ≢ heir.name → IsBelow d.name c.name
      → IsKeptWith kept heir.core c.name d.name ↔ MeetsInThree g part c.elements d.elements
  pub known : (p q : Name) → IsKeptWith kept heir.core p q → IsBelow q p × IsNoHeir f gone heir.name p × IsNoHeir f gone heir.name q
  pub dead : (n : Name) → Contains gone n → IsBelow n (Step f.next_step) × ¬ IsLive f n

-- the same of the heir that is there, if any, which isn't covered, and whose core is gone
abbrev pub IsHeirOf : Graph → Clusters → Name → List Merge → List Name → Option Heir → List Elem → Type 0
IsHeirOf g f covered kept gone None fresh = Unit {0}
IsHeirOf g f covered kept gone (Some heir) fresh = IsHeir g f covered kept gone heir fresh × ¬ IsBelow heir.name covered × Contains gone heir.core

-- where the cluster is the heir, all its partners are found by its fresh elements
abbrev pub TellsFresh : Index → Option Heir → List Elem → Cluster → Type 0
TellsFresh ix None fresh x = Unit {0}
TellsFresh ix (Some heir) fresh x =
    x.name ≡ heir.name → (n : Name) → Partner ix x n → (e : Elem) × Contains fresh e × PartnerOf ix x e n

-- the triples of the cluster of a name with a fresh element as a corner
abbrev pub IsOfFresh : Index → Clusters → Name → List Elem → Merge → Type 0
IsOfFresh ix f name fresh m = (x : Cluster) × IsNamed f name x × FromSome (AtCorner Either ix x) fresh m

-- the triples of the heir: those that it inherits, and those
abbrev pub IsOfHeir : Index → Clusters → List Merge → Heir → List Name → List Elem → Merge → Type 0
IsOfHeir ix f kept heir gone fresh m = FromSome (Inherits heir gone) kept m ⊎ IsOfFresh ix f heir.name fresh m

-- what a merge makes of the fresh elements: those of the other clusters that the one of the name hasn't are added
pub record IsFreshOn (f : Clusters) (names : List Name) (name : Name) (old new : List Elem) : Type 0 where
  pub grows : (e : Elem) → Contains old e → Contains new e
  pub right : (e : Elem) → Contains new e → Contains old e ⊎ ((c : Cluster) × Contains f.live c × Contains names c.name × Contains c.elements e)
  pub all : (c : Cluster) (e : Elem) → Contains f.live c → Contains names c.name → Contains c.elements e → Contains new e ⊎ ((w : Cluster) × IsNamed f name w × Contains w.elements e)

-- what is found of what isn't covered: of the heir, if there is one, what a walk from its fresh elements finds, else all of it
abbrev pub IsFound : Index → Graph → Clusters → Name → Option Heir → List Elem → Merge → Type 0
IsFound ix g f covered None fresh m = IsUncovered g f covered m
IsFound ix g f covered (Some heir) fresh m = IsOfFresh ix f heir.name fresh m
