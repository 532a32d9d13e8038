-- Lists that grow.
use Rattle.std.specs.Prelude.{◌↔◌, ◌⊎◌, List, Contains}

-- new has what old has and what is of that kind
abbrev pub GrowsBy : {M : Type 0} → (M → Type 0) → List M → List M → Type 0
GrowsBy {M} kind old new = (m : M) → Contains new m ↔ (Contains old m ⊎ kind m)

-- what some item of the list gives
abbrev pub FromSome : {X M : Type 0} → (X → M → Type 0) → List X → M → Type 0
FromSome kind xs m = (x : _) × Contains xs x × kind x m
