-- Places along a placed line `a·x + b·y = c`, which runs in the direction (b, −a).
use Rattle.std.specs.Prelude.{ℤ, ◌+ℤ◌, ◌-ℤ◌, ◌*ℤ◌, Option, Some, None, All}
use Rattle.sk_base.specs.declared.placed.At.{At}
use Rattle.sk_base.specs.declared.placed.At.TheVariants.{Point, Line}
use Rattle.sk_base.specs.declared.placed.Placed.{Placed}
use Rattle.sk_base.specs.declared.placed.Spot.{Spot}
use Rattle.sk_base.specs.Bounds.{IsWithin}
use Rattle.sk_base.specs.Nearest.{nearest}
use Rattle.sk_base.specs.Places.{IsBounded}
use Rattle.sk_dxf.specs.declared.course.Course.{Course}
use Rattle.sk_dxf.specs.declared.course.Place.{Place}

-- the numbers of the line are within the bounds of placed numbers
abbrev pub IsBoundedCourse : Course → Type 0
IsBoundedCourse line = IsWithin 2000000000 line.a × IsWithin 2000000000 line.b × IsWithin 1152921504606846976 line.c

-- the numbers of every place are within the bounds of placed numbers
abbrev pub HasBoundedPlaces : Placed → Type 0
HasBoundedPlaces p = All (λ (spot : Spot). IsBounded spot.at) p.spots

-- how far along the line a point lies; a line lies nowhere along another
abbrev pub along : Course → At → Option ℤ
along line (Point x y) = Some (nearest 1000000000 ((line.b *ℤ x) -ℤ (line.a *ℤ y)))
along line (Line a b c) = None

-- the place on the line that lies so far along it
abbrev pub place_at : Course → ℤ → Place
place_at line s = record {
  x = nearest 1000000000 ((line.a *ℤ line.c) +ℤ (line.b *ℤ s));
  y = nearest 1000000000 ((line.b *ℤ line.c) -ℤ (line.a *ℤ s));
}
