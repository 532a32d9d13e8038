-- What the constraints weigh that a body owns and holds, and what its elements need.
use Rattle.std.specs.Prelude.{◌≡◌, ◌≢◌, ℕ, ℤ, Contains, pos, ◌-ℤ◌, ◌+◌, ◌-◌, ◌*◌, ◌≤◌, ◌==◌, ◌&&◌, Bool, List, length, filter, sum_by}
use Rattle.std.specs.List.{list_any, list_all}
use Rattle.sk_base.specs.declared.Elem.{Elem}
use Rattle.sk_base.specs.declared.ConId.{ConId}
use Rattle.sk_base.specs.declared.Edge.{Edge}
use Rattle.sk_base.specs.declared.Block.{Block}
use Rattle.sk_base.specs.declared.Pin.{Pin}
use Rattle.sk_base.specs.declared.Graph.{Graph}
use Rattle.sk_family.specs.Body.{Body, Start, starts, join}
use Rattle.sk_family.specs.Sharing.{shared}
use Rattle.sk_base.specs.Numbering.{is_elem, con_number}
use Rattle.sk_base.specs.Rising.{IsRising}

-- what a constraint weighs: 1 between two elements, and 2k - 3 as a block of k pins
abbrev pub weight : Start → ℕ
weight s = 2 * length s.elements - 3

-- what those of some constraints that pass weigh together
abbrev pub weight_where : (Start → Bool) → List Start → ℕ
weight_where passes ss = sum_by weight (filter passes ss)

-- whether all elements that the constraint starts with are among these
abbrev pub is_inside : List Elem → Start → Bool
is_inside xs s = list_all (is_elem xs) s.elements

-- what the constraints weigh that lie among the elements
abbrev pub held : Graph → List Elem → ℕ
held g xs = weight_where (is_inside xs) (starts g)

-- whether both ends are among the elements
abbrev pub has_ends_in : List Elem → Edge → Bool
has_ends_in xs e = is_elem xs e.u && is_elem xs e.v

-- whether the elements of all pins are
abbrev pub has_pins_in : List Elem → Block → Bool
has_pins_in xs b = list_all (λ (pin : Pin). is_elem xs pin.elem) b.pins

-- what a block of k pins weighs
abbrev pub block_weight : Block → ℕ
block_weight b = 2 * length b.pins - 3

-- whether the constraint is one of these numbers
abbrev pub is_owned : List ConId → Start → Bool
is_owned owned s = list_any (λ (k : ConId). k.0 == s.number.0) owned

-- what the constraints of these numbers weigh
abbrev pub weight_of : Graph → List ConId → ℕ
weight_of g owned = weight_where (is_owned owned) (starts g)

-- rising numbers of constraints of the graph, as a cluster owns them
pub record AreConstraints (g : Graph) (owned : List ConId) : Type 0 where
  pub rise : IsRising con_number owned
  pub few : length owned ≤ 4000
  pub there : (k : ConId) → Contains owned k → (s : Start) × Contains (starts g) s × (s.number ≡ k)

-- what it owns weighs so much beyond 2n - 3, for its n elements
abbrev pub excess_of : Graph → Body → ℤ
excess_of g x = pos (weight_of g x.owned + 3) -ℤ pos (2 * length x.elements)

-- how many elements two bodies share, and how many a third one shares with the two besides
abbrev pub shared_by_two : Body → Body → ℕ
shared_by_two a b = length (shared a.elements b.elements)

abbrev pub shared_by_three : Body → Body → Body → ℕ
shared_by_three a b c = shared_by_two a b + shared_by_two (join a b) c

-- what it owns weighs at least 2n - 3, for its n elements
abbrev pub OwnsEnough : Graph → Body → Type 0
OwnsEnough g x = 2 * length x.elements ≤ weight_of g x.owned + 3

-- the constraint of that number has all its elements among the body's
abbrev pub HasInside : Graph → Body → ConId → Type 0
HasInside g x k = (s : Start) × Contains (starts g) s × (s.number ≡ k) × ((e : Elem) → Contains s.elements e → Contains x.elements e)

-- each constraint starts with two different elements
abbrev pub HasTwoEach : Graph → Type 0
HasTwoEach g = (s : Start) → Contains (starts g) s → (a : Elem) × (b : Elem) × (a ≢ b) × Contains s.elements a × Contains s.elements b
