-- When an element is told in a claim, and when a line, a constraint or a rigid block is as claimed.
use Rattle.std.specs.Prelude.{List, Contains, IsSome}
use Rattle.sk_base.specs.declared.Elem.{Elem}
use Rattle.sk_base.specs.declared.Element.{Element}
use Rattle.sk_base.specs.declared.Graph.{Graph}
use Rattle.sk_base.specs.declared.Shape.{Shape}
use Rattle.sk_base.specs.declared.Shape.TheVariants.{Point, Line, Circle}
use Rattle.sk_base.specs.Places.{place_of}
use Rattle.sk_measure.specs.Holding.{tolerance_of}
use Rattle.sk_measure.specs.Items.{Item, normal, constraint, block, Holds}
use Rattle.sk_tree.specs.declared.Plan.{Plan}
use Rattle.sk_tree.specs.LegalPlan.{numbers_of}
use Rattle.sk_claims.specs.declared.Claim.{Claim}
use Rattle.sk_claims.specs.declared.Radius.{Radius}
use Rattle.sk_claims.specs.Claims.{radius_nm}

-- a circle has its own radius, told in nanometres; a point and a line have none
abbrev pub HasItsRadius : List Radius → Elem → Shape → Type 0
HasItsRadius radii e (Point x y) = Unit {0}
HasItsRadius radii e (Line x1 y1 x2 y2) = Unit {0}
HasItsRadius radii e (Circle x y r) = Contains radii (record { elem = e; nm = radius_nm r.0 })

-- the element has a place, and a circle its radius
pub record IsTold (c : Claim) (x : Element) : Type 0 where
  pub placed : IsSome (place_of c.at x.number)
  pub radius : HasItsRadius c.radii x.number x.shape

-- the item holds within the claimed tolerance that it asks
abbrev pub HoldsAsClaimed : Claim → Item → Type 0
HoldsAsClaimed c (normal line) = Holds c.at (normal line) c.w
HoldsAsClaimed c (constraint e) = Holds c.at (constraint e) (tolerance_of e.measure c.t c.w)
HoldsAsClaimed c (block b) = Holds c.at (block b) c.t

-- the plan that has the claimed steps
abbrev pub plan_claimed : Graph → Claim → Plan
plan_claimed g c = record { leaves = numbers_of g; steps = c.steps }
