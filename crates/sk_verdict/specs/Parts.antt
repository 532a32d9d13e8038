-- The parts of a family: its clusters, and the lone elements.
use Rattle.std.specs.Prelude.{◌≡◌, ◌≢◌, ◌*◌, ◌-◌, ◌⊎◌, List, [], ◌∷◌, length, map, All, Contains}
use Rattle.sk_base.specs.declared.Elem.{Elem}
use Rattle.sk_base.specs.declared.Node.{Node}
use Rattle.sk_base.specs.declared.Edge.{Edge}
use Rattle.sk_base.specs.declared.Block.{Block}
use Rattle.sk_base.specs.declared.Pin.{Pin}
use Rattle.sk_base.specs.declared.Graph.{Graph}
use Rattle.sk_family.specs.Body.{Body}
use Rattle.sk_rules.specs.Excess.{held}
use Rattle.sk_verdict.specs.declared.part.Part.{Part}

abbrev pub elem_of : Node → Elem
elem_of n = n.elem

-- the constraint doesn't end there
abbrev pub EndsElsewhere : Edge → Elem → Type 0
EndsElsewhere d e = (d.u ≢ e) × (d.v ≢ e)

-- no constraint between two elements ends there
abbrev pub IsEndOfNone : Graph → Elem → Type 0
IsEndOfNone g e = All (λ (d : Edge). EndsElsewhere d e) g.edges

-- the block has no pin there
abbrev pub HasNoPin : Elem → Block → Type 0
HasNoPin e b = All (λ (pin : Pin). pin.elem ≢ e) b.pins

-- no constraint names the element, and no block
abbrev pub IsNamedByNone : Graph → Elem → Type 0
IsNamedByNone g e = IsEndOfNone g e × All (HasNoPin e) g.blocks

-- a lone element is a node that no constraint names
pub record IsLone (g : Graph) (e : Elem) : Type 0 where
  pub is_node : Contains (map elem_of g.nodes) e
  pub named_by_none : IsNamedByNone g e

-- the elements are those of a cluster, or a lone one
abbrev pub AreOfOnePart : Graph → List Body → List Elem → Type 0
AreOfOnePart g f xs = ((x : Body) × Contains f x × (x.elements ≡ xs)) ⊎ ((e : Elem) × IsLone g e × (e ∷ [] ≡ xs))

-- the part of these elements: it holds what the constraints weigh that lie among them, and 2n - 3 are
-- due for n elements, which is 0 for one
abbrev pub part_with : Graph → List Elem → Part
part_with g xs = record { elements = xs; held = held g xs; due = 2 * length xs - 3 }

abbrev pub IsPart : Graph → List Body → Part → Type 0
IsPart g f p = AreOfOnePart g f p.elements × (p ≡ part_with g p.elements)
