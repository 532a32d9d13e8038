-- The first item of a list that has a property, and the first of two by number.
use Rattle.std.specs.Prelude.{◌≡◌, nat_lt, if◌then◌else◌, ℕ, List, ◌∷◌, ◌++◌, Option, None, Some, Contains}

-- x has the property, and no item before it has
pub record IsFirst {X : Type 0} (P : X → Type 0) (xs : List X) (x : X) : Type 0 where
  pub before : List X
  pub after : List X
  pub parts : xs ≡ before ++ x ∷ after
  pub has : P x
  pub none_before : (y : X) → Contains before y → ¬ P y

-- the one of two with the smaller number, if there are any
abbrev pub earlier : {X : Type 0} → (X → ℕ) → Option X → Option X → Option X
earlier number None other = other
earlier number (Some x) None = Some x
earlier number (Some x) (Some y) = if nat_lt (number x) (number y) then Some x else Some y
