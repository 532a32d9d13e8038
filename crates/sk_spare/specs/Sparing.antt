-- Which constraints of a graph may go.
use Rattle.std.specs.Prelude.{◌↔◌, ◌==◌, not, Bool, List, Contains}
use Rattle.sk_base.specs.declared.Elem.{Elem}
use Rattle.sk_base.specs.declared.ConId.{ConId}
use Rattle.sk_base.specs.declared.Graph.{Graph}
use Rattle.sk_base.specs.Numbering.{con_number}
use Rattle.sk_base.specs.Rising.{IsRising}
use Rattle.sk_family.specs.Body.{Body}
use Rattle.sk_rules.specs.JustSome.{with_just}
use Rattle.sk_rules.specs.Reach.{IsNormal}

-- whether it is not the constraint of that number
abbrev pub differs_from : ConId → ConId → Bool
differs_from k j = not (j.0 == k.0)

-- the graph without the constraint of that number
abbrev pub without : ConId → Graph → Graph
without k g = with_just (differs_from k) g

-- one of the family's bodies holds all of these elements
abbrev pub HoldsAll : List Body → List Elem → Type 0
HoldsAll f xs = (y : Body) × Contains f y × ((e : Elem) → Contains xs e → Contains y.elements e)

-- the body that owns the constraint in a normal family of the graph
pub record IsOwner (g : Graph) (f : List Body) (k : ConId) (x : Body) : Type 0 where
  pub normal : IsNormal g f
  pub in_family : Contains f x
  pub owns : Contains x.owned k

-- without the constraint, one body of the normal family still holds all elements of the body that owns it
pub record IsSpare (g : Graph) (k : ConId) : Type 0 where
  pub family : List Body
  pub owner : Body
  pub owns : IsOwner g family k owner
  pub left : List Body
  pub normal : IsNormal (without k g) left
  pub holds : HoldsAll left owner.elements

-- exactly the spare constraints, rising
pub record AreSpares (g : Graph) (spares : List ConId) : Type 0 where
  pub exactly : (k : ConId) → Contains spares k ↔ IsSpare g k
  pub rise : IsRising con_number spares
