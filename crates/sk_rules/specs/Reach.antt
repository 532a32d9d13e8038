-- What merging leads to, from a graph's starting bodies.
use Rattle.std.specs.Prelude.{◌≡◌, ◌≢◌, ◌↔◌, ◌⊎◌, List, [], ◌∷◌, Contains}
use Rattle.sk_base.specs.declared.Graph.{Graph}
use Rattle.sk_family.specs.Body.{Body, join_all, initial_bodies, SameBodies}
use Rattle.sk_family.specs.Rules.{SharesTwo, MeetsInThree}

-- the two or three bodies may merge, by the pair rule or the triangle rule
abbrev pub CanMerge : Graph → List Body → Type 0
CanMerge g (a ∷ b ∷ []) = (a ≢ b) × SharesTwo a.elements b.elements
CanMerge g (a ∷ b ∷ c ∷ []) = (a ≢ b) × (b ≢ c) × (c ≢ a) × MeetsInThree g a.elements b.elements c.elements
CanMerge g _ = ⊥

-- each of some bodies is one of the family
abbrev pub AreAmong : List Body → List Body → Type 0
AreAmong some family = (x : Body) → Contains some x → Contains family x

-- new is old with the merged bodies replaced by the one that they make
abbrev pub Replaces : List Body → List Body → List Body → Type 0
Replaces old merged new = (x : Body) → Contains new x ↔ ((x ≡ join_all merged) ⊎ (Contains old x × ¬ Contains merged x))

-- one merge by a rule, which tells which bodies of a family may merge
pub record StepBy (rule : List Body → List Body → Type 0) (old new : List Body) : Type 0 where
  pub merged : List Body
  pub can_merge : rule old merged
  pub among : AreAmong merged old
  pub replaces : Replaces old merged new

-- finitely many merges by a rule lead from one family to the other
pub data ReachBy (rule : List Body → List Body → Type 0) : List Body → List Body → Type 0 where
  stays : {f : List Body} → ReachBy rule f f
  goes : {f mid new : List Body} → StepBy rule f mid → ReachBy rule mid new → ReachBy rule f new

-- no bodies of the family may merge by the rule
abbrev pub IsClosedBy : (List Body → List Body → Type 0) → List Body → Type 0
IsClosedBy rule f = (some : List Body) → AreAmong some f → ¬ rule f some

-- the two rules together look at the bodies alone, whatever family they are of
abbrev pub either_rule : Graph → List Body → List Body → Type 0
either_rule g family some = CanMerge g some

-- one merge by either rule
abbrev pub Step : Graph → List Body → List Body → Type 0
Step g old new = StepBy (either_rule g) old new

-- finitely many merges lead from one family to the other
abbrev pub Reach : Graph → List Body → List Body → Type 0
Reach g f new = ReachBy (either_rule g) f new

-- no two or three of the family's bodies may merge
abbrev pub IsClosed : Graph → List Body → Type 0
IsClosed g f = IsClosedBy (either_rule g) f

-- merging by the rule leads from the graph's start to the family, and no further
pub record IsNormalBy (rule : List Body → List Body → Type 0) (g : Graph) (f : List Body) : Type 0 where
  pub reached : ReachBy rule (initial_bodies g) f
  pub closed : IsClosedBy rule f

-- merging leads from the graph's start to the family, and no further
abbrev pub IsNormal : Graph → List Body → Type 0
IsNormal g f = IsNormalBy (either_rule g) g f

-- each normal family of the graph holds the same bodies
abbrev pub IsTheOnlyNormal : Graph → List Body → Type 0
IsTheOnlyNormal g f = (other : List Body) → IsNormal g other → SameBodies other f
