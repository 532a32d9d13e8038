-- What merging by all three rules leads to, from a graph's starting bodies.
use Rattle.std.specs.Prelude.{List, Contains}
use Rattle.sk_base.specs.declared.Elem.{Elem}
use Rattle.sk_base.specs.declared.ConId.{ConId}
use Rattle.sk_base.specs.declared.Graph.{Graph}
use Rattle.sk_family.specs.Body.{Body, SameBodies}
use Rattle.sk_rules.specs.Reach.{StepBy, ReachBy, IsClosedBy, IsNormalBy}
use Rattle.sk_close_by_angles.specs.Ties.{wide_rule}

-- one merge by one of the three rules
abbrev pub WideStep : Graph → List Body → List Body → Type 0
WideStep g old new = StepBy (wide_rule g) old new

-- finitely many merges lead from one family to the other
abbrev pub WideReach : Graph → List Body → List Body → Type 0
WideReach g f new = ReachBy (wide_rule g) f new

-- no two or three of the family's bodies may merge
abbrev pub IsWideClosed : Graph → List Body → Type 0
IsWideClosed g f = IsClosedBy (wide_rule g) f

-- merging leads from the graph's start to the family, and no further
abbrev pub IsWideNormal : Graph → List Body → Type 0
IsWideNormal g f = IsNormalBy (wide_rule g) g f

-- each wide normal family of the graph holds the same bodies
abbrev pub IsTheOnlyWideNormal : Graph → List Body → Type 0
IsTheOnlyWideNormal g f = (other : List Body) → IsWideNormal g other → SameBodies other f

-- what the one body holds and owns, the other does
pub record LiesIn (x y : Body) : Type 0 where
  pub elements : (e : Elem) → Contains x.elements e → Contains y.elements e
  pub owned : (k : ConId) → Contains x.owned k → Contains y.owned k
