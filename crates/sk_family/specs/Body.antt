-- What a cluster is apart from its name, and what a family holds.
use Rattle.std.specs.Prelude.{◌↔◌, ℕ, List, [], ◌∷◌, map, fold, Contains}
use Rattle.sk_base.specs.declared.Elem.{Elem}
use Rattle.sk_base.specs.declared.ConId.{ConId}
use Rattle.sk_base.specs.declared.Edge.{Edge}
use Rattle.sk_base.specs.declared.Block.{Block}
use Rattle.sk_base.specs.declared.Graph.{Graph}
use Rattle.sk_base.specs.Numbering.{elem_number, con_number}
use Rattle.sk_base.specs.Pins.{elements_of}
use Rattle.sk_base.specs.Rising.{IsRising, union}

-- some elements with the constraints that they own
pub record Body : Type 0 where
  pub elements : List Elem
  pub owned : List ConId

-- both lists rise
pub record IsRisingBody (b : Body) : Type 0 where
  pub elements : IsRising elem_number b.elements
  pub owned : IsRising con_number b.owned

-- the two as one
abbrev pub join : Body → Body → Body
join a b = record { elements = union elem_number a.elements b.elements; owned = union con_number a.owned b.owned }

abbrev pub nothing : Body
nothing = record { elements = []; owned = [] }

-- all of them as one
abbrev pub join_all : List Body → Body
join_all bodies = fold join nothing bodies

-- what a constraint starts with: its number, and its elements
pub record Start : Type 0 where
  pub number : ConId
  pub elements : List Elem

abbrev pub start_number : Start → ℕ
start_number s = s.number.0

-- the start of the constraint of that number between these elements
abbrev pub start_between : ConId → List Elem → Start
start_between number elements = record { number = number; elements = union elem_number elements [] }

-- a constraint between two elements starts with its two ends
abbrev pub edge_start : Edge → Start
edge_start e = start_between e.id (e.u ∷ e.v ∷ [])

-- a block starts with the elements of its pins
abbrev pub block_start : Block → Start
block_start b = start_between b.id (elements_of b.pins)

-- what the graph's constraints start with, in order of number; without blocks just its edges' starts
abbrev pub starts : Graph → List Start
starts g = union start_number (map block_start g.blocks) (map edge_start g.edges)

-- the body of a start: its elements, owning the constraint alone
abbrev pub starting : Start → Body
starting s = record { elements = s.elements; owned = s.number ∷ [] }

-- a starting body for each constraint
abbrev pub initial_bodies : Graph → List Body
initial_bodies g = map starting (starts g)

-- the two families hold the same bodies
abbrev pub SameBodies : List Body → List Body → Type 0
SameBodies old new = (x : Body) → Contains old x ↔ Contains new x
