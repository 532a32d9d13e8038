-- Which way a block turns: by the given places of its first three pins that don't lie on one line.
use Rattle.std.specs.Prelude.{zero, suc, ℤ, pos, negsuc, Bool, true, false, List, [], ◌∷◌, ◌++◌, map, Option, find}
use Rattle.sk_base.specs.declared.At.{At}
use Rattle.sk_base.specs.declared.At.TheVariants.{Point}
use Rattle.sk_base.specs.declared.Pin.{Pin}
use Rattle.sk_orient.specs.PlacedSigns.{turn_placed}

-- each two of the items, compared by place
abbrev pub twos : {X : Type 0} → List X → List (X × X)
twos [] = []
twos (x ∷ xs) = map (λ y. (x, y)) xs ++ twos xs

-- each three of them, compared by place
abbrev pub threes : {X : Type 0} → List X → List (X × X × X)
threes [] = []
threes (x ∷ xs) = map (λ two. (x, two.0, two.1)) (twos xs) ++ threes xs

-- where a pin lies in its block
abbrev pub given_place : Pin → At
given_place pin = Point pin.x.0 pin.y.0

-- the turn of three pins as they are given
abbrev pub turn_given : Pin × Pin × Pin → ℤ
turn_given three = turn_placed (given_place three.0) (given_place three.1) (given_place three.2)

-- it isn't zero
abbrev pub is_turn : ℤ → Bool
is_turn (pos zero) = false
is_turn (pos (suc n)) = true
is_turn (negsuc n) = true

-- the first three pins that don't lie on one line, if there are any
abbrev pub corners : List Pin → Option (Pin × Pin × Pin)
corners pins = find (λ three. is_turn (turn_given three)) (threes pins)
