-- The segment of a line that is drawn.
use Rattle.std.specs.Prelude.{ℤ, pos, ◌+ℤ◌, ◌-ℤ◌, ◌≤ℤ◌, List, [], ◌∷◌, fold, All, Contains, if◌then◌else◌}
use Rattle.std.specs.Int.{int_min, int_max}
use Rattle.std.specs.Ordering.{int_eq}
use Rattle.sk_dxf.specs.declared.segment.Segment.{Segment}

-- from the least place along the line to the greatest; both are 0 where there is none
abbrev pub reach : List ℤ → Segment
reach [] = record { first = pos 0; last = pos 0 }
reach (s ∷ places) = record { first = fold int_min s places; last = fold int_max s places }

-- where both ends are one, it goes on for 10 millimetres before and behind it
abbrev pub drawn : Segment → Segment
drawn segment =
    if int_eq segment.first segment.last then record { first = segment.first -ℤ pos 10000000; last = segment.last +ℤ pos 10000000 }
    else segment

-- the segment begins and ends at one of the places, and holds all of them
pub record Spans (places : List ℤ) (segment : Segment) : Type 0 where
  pub first : Contains places segment.first
  pub last : Contains places segment.last
  pub all_behind : All (λ s. segment.first ≤ℤ s) places
  pub all_before : All (λ s. s ≤ℤ segment.last) places
