-- Drawings with no constraint too many, anywhere.
use Rattle.std.specs.Prelude.{◌≡◌, ◌≢◌, ℕ, ◌+◌, ◌-◌, ◌*◌, ◌≤◌, List, [], ◌∷◌, length, Contains, AllPairs, count_by, sum_by}
use Rattle.sk_base.specs.declared.Elem.{Elem}
use Rattle.sk_base.specs.declared.Graph.{Graph}
use Rattle.sk_base.specs.declared.Block.{Block}
use Rattle.sk_base.specs.declared.Pin.{Pin}
use Rattle.sk_base.specs.Numbering.{is_elem}
use Rattle.sk_family.specs.Body.{Body, Start, starts}
use Rattle.sk_family.specs.Rules.{IsLine}
use Rattle.sk_rules.specs.Reach.{Reach, stays, goes}
use Rattle.sk_rules.specs.Excess.{weight_of, held, has_ends_in}
use Rattle.sk_tree.specs.Meeting.{MeetsOnce}

-- what it owns weighs 2n - 3 for its n elements, and no more
abbrev pub OwnsJustEnough : Graph → Body → Type 0
OwnsJustEnough g x = weight_of g x.owned + 3 ≡ 2 * length x.elements

abbrev pub AllOwnJustEnough : Graph → List Body → Type 0
AllOwnJustEnough g f = (x : Body) → Contains f x → OwnsJustEnough g x

-- what a constraint weighs among some elements: 2j - 3 where j ≥ 2 of its own are there, so 1 for one
-- between two elements
abbrev pub weight_within : List Elem → Start → ℕ
weight_within xs s = 2 * count_by (is_elem xs) s.elements - 3

-- what all constraints weigh among some elements
abbrev pub weight_among : Graph → List Elem → ℕ
weight_among g xs = sum_by (weight_within xs) (starts g)

-- the same of a block, by its pins
abbrev pub pins_weight : List Elem → Block → ℕ
pins_weight xs b = 2 * count_by (λ (pin : Pin). is_elem xs pin.elem) b.pins - 3

-- how many angles are between some lines
abbrev pub angles_among : Graph → List Elem → ℕ
angles_among g lines = count_by (has_ends_in lines) g.edges

-- no two are the same
abbrev pub AreDistinct : List Elem → Type 0
AreDistinct xs = AllPairs (λ x y. x ≢ y) xs

abbrev pub AreLines : Graph → List Elem → Type 0
AreLines g xs = (x : Elem) → Contains xs x → IsLine g x

-- among any k ≥ 2 elements the constraints weigh at most 2k - 3
abbrev pub IsSparse : Graph → Type 0
IsSparse g = (xs : List Elem) → AreDistinct xs → 2 ≤ length xs → weight_among g xs + 3 ≤ 2 * length xs

-- at most k - 1 angles stand between any k ≥ 1 lines
abbrev pub HasFewAngles : Graph → Type 0
HasFewAngles g = (lines : List Elem) → AreDistinct lines → AreLines g lines → 1 ≤ length lines → angles_among g lines + 1 ≤ length lines

-- each of some elements is one of all
abbrev pub AreIn : List Elem → List Elem → Type 0
AreIn some all = (x : Elem) → Contains some x → Contains all x

-- among any k ≥ 2 of the elements the constraints weigh at most 2k - 3
abbrev pub IsSparseAmong : Graph → List Elem → Type 0
IsSparseAmong g all = (some : List Elem) → AreDistinct some → AreIn some all → 2 ≤ length some → weight_among g some + 3 ≤ 2 * length some

-- at most k - 1 angles stand between any k ≥ 1 lines of the elements
abbrev pub HasFewAnglesAmong : Graph → List Elem → Type 0
HasFewAnglesAmong g all = (lines : List Elem) → AreDistinct lines → AreIn lines all → AreLines g lines → 1 ≤ length lines → angles_among g lines + 1 ≤ length lines

-- three bodies of which each two share one element
abbrev pub AreThreeMeetingOnce : Graph → List Body → Type 0
AreThreeMeetingOnce g (a ∷ b ∷ c ∷ []) = (p : Elem) × (q : Elem) × (r : Elem) × MeetsOnce g a.elements b.elements c.elements p q r
AreThreeMeetingOnce g _ = ⊥

-- each merge on the way is one of three bodies that meet once
abbrev pub EachMeetsOnce : {g : Graph} {f n : List Body} → Reach g f n → Type 0
EachMeetsOnce stays = Unit {0}
EachMeetsOnce {g} (goes one rest) = AreThreeMeetingOnce g one.merged × EachMeetsOnce rest

-- what a body holds weighs no more than 2n - 3
abbrev pub HoldsNoneTooMany : Graph → List Body → Type 0
HoldsNoneTooMany g f = (x : Body) → Contains f x → held g x.elements + 3 ≤ 2 * length x.elements
