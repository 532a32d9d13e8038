-- Parts that are put together one by one.
use Rattle.std.specs.Prelude.{◌≡◌, ◌≢◌, ◌↔◌, ◌⊎◌, ◌*◌, ◌-◌, length, List, [], ◌∷◌, map, Contains}
use Rattle.sk_base.specs.declared.Elem.{Elem}
use Rattle.sk_base.specs.declared.Node.{Node}
use Rattle.sk_base.specs.declared.Graph.{Graph}
use Rattle.sk_family.specs.declared.Cluster.{Cluster}
use Rattle.sk_rules.specs.Excess.{weight_of}
use Rattle.sk_verdict.specs.declared.part.Part.{Part}
use Rattle.sk_verdict.specs.Ordering.{AreInOrder}
use Rattle.sk_verdict.specs.Parts.{IsNamedByNone, elem_of, part_with}

abbrev pub elements_of : Cluster → List Elem
elements_of c = c.elements

-- the part of a cluster, where what it owns is what it holds
abbrev pub owned_part : Graph → Cluster → Part
owned_part g c = record { elements = c.elements; held = weight_of g c.owned; due = 2 * length c.elements - 3 }

-- one part for each of these clusters, in order
pub record AreOfClusters (g : Graph) (clusters : List Cluster) (parts : List Part) : Type 0 where
  pub in_order : AreInOrder parts
  pub exactly : (p : Part) → Contains parts p ↔ Contains (map (owned_part g) clusters) p

-- the part of one of these nodes, which no constraint names
abbrev pub IsOfLone : Graph → List Node → Part → Type 0
IsOfLone g nodes p = (e : Elem) × Contains (map elem_of nodes) e × IsNamedByNone g e × (part_with g (e ∷ []) ≡ p)

-- the parts of these nodes are added, in order
pub record AddsLone (g : Graph) (nodes : List Node) (old new : List Part) : Type 0 where
  pub in_order : AreInOrder new
  pub exactly : (p : Part) → Contains new p ↔ (Contains old p ⊎ IsOfLone g nodes p)

-- no part has one element alone
abbrev pub HasNoSingle : List Part → Type 0
HasNoSingle parts = (p : Part) (e : Elem) → Contains parts p → p.elements ≢ e ∷ []
