-- A sketch with constraints more.
use Rattle.std.specs.Prelude.{◌≡◌, ℕ, ◌+◌, ◌==◌, Bool, not, List, [], ◌∷◌, ◌++◌, All, Contains, filter, map}
use Rattle.std.specs.List.{list_any}
use Rattle.sk_base.specs.declared.ConId.{ConId}
use Rattle.sk_base.specs.declared.Elem.{Elem}
use Rattle.sk_base.specs.declared.Constraint.{Constraint}
use Rattle.sk_base.specs.declared.Sketch.{Sketch}
use Rattle.sk_base.specs.Rising.{IsRising}
use Rattle.sk_base.specs.SoundSketch.{IsSoundSketch}
use Rattle.sk_drawn.specs.DrawnValues.{IsDrawnRule}

-- t has the elements of s, and its constraints, with their numbers, among its own
pub record HasAmong (s t : Sketch) : Type 0 where
  pub elements : t.elements ≡ s.elements
  pub rise : IsRising (λ (c : Constraint). c.number.0) s.constraints
  pub constraints : (c : Constraint) → Contains s.constraints c → Contains t.constraints c

abbrev pub number_of : Constraint → ConId
number_of c = c.number

-- whether s has a constraint of that number
abbrev pub is_numbered_in : Sketch → Constraint → Bool
is_numbered_in s c = list_any (λ (k : ConId). k.0 == c.number.0) (map number_of s.constraints)

-- the constraints that t has besides
abbrev pub besides : Sketch → Sketch → List Constraint
besides s t = filter (λ (c : Constraint). not (is_numbered_in s c)) t.constraints

-- t has the elements of s, and behind its constraints others
pub record HasMore (s t : Sketch) (added : List Constraint) : Type 0 where
  pub elements : t.elements ≡ s.elements
  pub constraints : t.constraints ≡ s.constraints ++ added

-- the number of the last one, or this one where there is none
abbrev pub last_from : ℕ → List Constraint → ℕ
last_from n [] = n
last_from n (c ∷ cs) = last_from c.number.0 cs

-- the number of the last one, 0 where there is none
abbrev pub last_number : List Constraint → ℕ
last_number cs = last_from 0 cs

-- their numbers count on behind this one
abbrev pub AreNumberedBehind : ℕ → List Constraint → Type 0
AreNumberedBehind n [] = Unit {0}
AreNumberedBehind n (c ∷ cs) = (c.number.0 ≡ n + 1) × AreNumberedBehind (n + 1) cs

-- the constraint is the drawn value of two elements
pub record IsDrawnConstraint (s : Sketch) (c : Constraint) : Type 0 where
  pub one : Elem
  pub other : Elem
  pub says : IsDrawnRule s one other c.rule

-- t is sound, and has besides the constraints of s only drawn values, with numbers that count on
pub record Extends (s t : Sketch) : Type 0 where
  pub added : List Constraint
  pub more : HasMore s t added
  pub numbered : AreNumberedBehind (last_number s.constraints) added
  pub drawn : All (IsDrawnConstraint s) added
  pub sound : IsSoundSketch t
