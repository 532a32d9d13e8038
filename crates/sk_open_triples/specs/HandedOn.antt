-- What is found of the clusters that aren't covered is added to the open triples.
use Rattle.std.specs.Prelude.{◌≡◌, ◌↔◌, ◌⊎◌, ◌++◌, List, Contains, AllPairs, Option, None, Some, false}
use Rattle.sk_base.specs.declared.Name.{Name}
use Rattle.sk_family.specs.declared.Merge.{Merge}
use Rattle.sk_family.specs.declared.Merge.TheVariants.{Three}
use Rattle.sk_triangles.specs.Growing.{FromSome}
use Rattle.sk_open_triples.specs.declared.heir.Heir.{Heir}
use Rattle.sk_open_triples.specs.MergeOrder.{ComesFirst}
use Rattle.sk_open_triples.specs.Inherited.{Inherits}
use Rattle.sk_open_triples.specs.Avoiding.{IsTriple, avoiding, names_one_of}

-- a triple with the name as the greatest
abbrev pub HasGreatest : Name → Merge → Type 0
HasGreatest x m = (y : Name) × (z : Name) × (m ≡ Three x y z)

-- these are triples: where there is an heir its own, and its core is gone
abbrev pub AreFoundFor : Option Heir → List Name → List Merge → Type 0
AreFoundFor None gone found = (m : Merge) → Contains found m → IsTriple m
AreFoundFor (Some heir) gone found = Contains gone heir.core × ((m : Merge) → Contains found m → HasGreatest heir.name m)

-- what is to be added: what was found, and what the heir inherits, if there is one
abbrev pub IsOfHeirIn : Heir → List Name → List Merge → List Merge → Merge → Type 0
IsOfHeirIn heir gone found kept m = FromSome (Inherits heir gone) kept m ⊎ Contains found m

abbrev pub IsToAdd : Option Heir → List Name → List Merge → List Merge → Merge → Type 0
IsToAdd None gone found kept m = Contains found m
IsToAdd (Some heir) gone found kept m = (names_one_of gone m ≡ false) × IsOfHeirIn heir gone found kept m

-- what names one of the gone is dropped, and behind the rest stand just the merges of that kind, in order
pub record IsTakenIn (gone : List Name) (kind : Merge → Type 0) (old new : List Merge) : Type 0 where
  pub more : List Merge
  pub parts : new ≡ avoiding gone old ++ more
  pub in_order : AllPairs ComesFirst more
  pub exactly : (m : Merge) → Contains more m ↔ kind m

-- but for what names one of the gone, new is old and behind it just the merges of that kind, in order
pub record IsAdded (gone : List Name) (kind : Merge → Type 0) (old new : List Merge) : Type 0 where
  pub rest : List Merge
  pub last : List Merge
  pub parts : new ≡ rest ++ last
  pub left : avoiding gone rest ≡ avoiding gone old
  pub in_order : AllPairs ComesFirst last
  pub exactly : (m : Merge) → names_one_of gone m ≡ false → Contains last m ↔ kind m
