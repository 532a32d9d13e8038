-- The words of a block's line.
use Rattle.std.specs.Prelude.{ℕ, Bool, false, ◌||◌, List, [], ◌∷◌}
use Rattle.std.specs.List.{list_any}

-- a name and the two coordinates of its place
pub record PinWords : Type 0 where
  pub name : List ℕ
  pub x : List ℕ
  pub y : List ℕ

-- the words in threes
abbrev pub pins_in : List (List ℕ) → List PinWords
pins_in (name ∷ x ∷ y ∷ more) = record { name = name; x = x; y = y } ∷ pins_in more
pins_in _ = []

-- whether one of the list and a later one pass the test
abbrev pub some_two : {X : Type 0} → (X → X → Bool) → List X → Bool
some_two test [] = false
some_two test (x ∷ xs) = list_any (test x) xs || some_two test xs
