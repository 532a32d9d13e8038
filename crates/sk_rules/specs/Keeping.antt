-- Which bodies can be kept when a graph's constraints change.
use Rattle.std.specs.Prelude.{◌≡◌, ◌≢◌, ◌↔◌, ◌⊎◌, List, Contains}
use Rattle.sk_base.specs.declared.Elem.{Elem}
use Rattle.sk_base.specs.declared.ConId.{ConId}
use Rattle.sk_base.specs.declared.Graph.{Graph}
use Rattle.sk_family.specs.Body.{Body, Start, starts, starting, initial_bodies, SameBodies}
use Rattle.sk_family.specs.Rules.{IsLine}
use Rattle.sk_rules.specs.Reach.{Reach}

-- merging leads from the graph's start to the family, in whatever order its bodies stand
pub record IsReached (g : Graph) (f : List Body) : Type 0 where
  pub reached_as : List Body
  pub reach : Reach g (initial_bodies g) reached_as
  pub same : SameBodies reached_as f

-- one of the bodies owns the constraint
abbrev pub IsOwned : List Body → ConId → Type 0
IsOwned bodies k = (x : Body) × Contains bodies x × Contains x.owned k

-- the family is the kept bodies, and each constraint that they do not own as it starts
abbrev pub Completes : Graph → List Body → List Body → Type 0
Completes g kept family = (x : Body) → Contains family x ↔ (Contains kept x ⊎ ((e : Start) × Contains (starts g) e × (¬ IsOwned kept e.number) × (x ≡ starting e)))

-- the constraints that the body owns start in the new graph as in the old, and none of its elements has become a line
pub record CarriesOver (old new : Graph) (x : Body) : Type 0 where
  pub starts : (e : Start) → Contains (starts old) e → Contains x.owned e.number → Contains (initial_bodies new) (starting e)
  pub lines : (e : Elem) → Contains x.elements e → IsLine new e → IsLine old e

-- new has the constraint with that start, of a number that is free in old, beside those of old
pub record HasOneMore (e : Start) (old new : Graph) : Type 0 where
  pub free : (d : Start) → Contains (starts old) d → d.number ≢ e.number
  pub starts : (d : Start) → Contains (starts new) d ↔ ((d ≡ e) ⊎ Contains (starts old) d)

-- new has the constraints of old but for one
abbrev pub HasAllBut : ConId → Graph → Graph → Type 0
HasAllBut k old new = (d : Start) → Contains (starts new) d ↔ (Contains (starts old) d × (d.number ≢ k))

-- no element of a constraint of old has become a line
abbrev pub KeepsKinds : Graph → Graph → Type 0
KeepsKinds old new = (d : Start) → Contains (starts old) d → (e : Elem) → Contains d.elements e → IsLine new e → IsLine old e

-- the family with one body more
abbrev pub Adopts : List Body → Body → List Body → Type 0
Adopts old x new = (y : Body) → Contains new y ↔ ((y ≡ x) ⊎ Contains old y)

-- the family with the starts of the body's constraints, but for k, in the body's place
abbrev pub Dissolves : Graph → List Body → Body → ConId → List Body → Type 0
Dissolves g old x k new =
    (y : Body) → Contains new y ↔ ((Contains old y × (y ≢ x)) ⊎ ((d : Start) × Contains (starts g) d × Contains x.owned d.number × (d.number ≢ k) × (y ≡ starting d)))

-- the family with the bodies of some others in the place of one of its own
abbrev pub TakesPlace : List Body → Body → List Body → List Body → Type 0
TakesPlace old x some new = (y : Body) → Contains new y ↔ ((Contains old y × (y ≢ x)) ⊎ Contains some y)
