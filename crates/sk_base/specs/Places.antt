-- The places of elements by their numbers, and the bounds of places.
use Rattle.std.specs.Prelude.{◌==◌, Option, find}
use Rattle.std.specs.Option.{option_map}
use Rattle.sk_base.specs.declared.numbered.Elem.{Elem}
use Rattle.sk_base.specs.declared.placed.At.{At}
use Rattle.sk_base.specs.declared.placed.At.TheVariants.{Point, Line}
use Rattle.sk_base.specs.declared.placed.Spot.{Spot}
use Rattle.sk_base.specs.declared.placed.Placed.{Placed}
use Rattle.sk_base.specs.Bounds.{IsWithin}

-- where the element of that number lies
abbrev pub place_of : Placed → Elem → Option At
place_of p e = option_map (λ (spot : Spot). spot.at) (find (λ (spot : Spot). spot.elem.0 == e.0) p.spots)

abbrev pub IsPoint : At → Type 0
IsPoint (Point x y) = Unit {0}
IsPoint (Line a b c) = ⊥

abbrev pub IsLine : At → Type 0
IsLine (Point x y) = ⊥
IsLine (Line a b c) = Unit {0}

-- lengths are within 2^60 nanometres, parts of a normal within 2·10^9 parts per 10^9
abbrev pub IsBounded : At → Type 0
IsBounded (Point x y) = IsWithin 1152921504606846976 x × IsWithin 1152921504606846976 y
IsBounded (Line a b c) = IsWithin 2000000000 a × IsWithin 2000000000 b × IsWithin 1152921504606846976 c
