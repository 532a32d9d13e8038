-- Where two drawn lines meet.
use Rattle.std.specs.Prelude.{ℤ, pos, negsuc, neg_ℤ, suc, ◌+ℤ◌, ◌*ℤ◌, ◌&&◌, Bool, nat_le, unsigned_abs, if◌then◌else◌}
use Rattle.std.specs.Ordering.{int_eq}
use Rattle.sk_base.specs.declared.Shape.{Shape}
use Rattle.sk_base.specs.Nearest.{nearest}
use Rattle.sk_orient.specs.declared.Vector.{Vector}
use Rattle.sk_orient.specs.Vectors.{way, cross}
use Rattle.sk_orient.specs.DrawnSigns.{place_of, direction_of}

-- n / d, to the nearest whole number, halves away from zero
abbrev pub nearest_ratio : ℤ → ℤ → ℤ
nearest_ratio n (pos d) = nearest d n
nearest_ratio n (negsuc d) = nearest (suc d) (neg_ℤ n)

-- so many micrometres in nanometres
abbrev pub nanometres : Vector → Vector
nanometres v = record { x = pos 1000 *ℤ v.x; y = pos 1000 *ℤ v.y }

-- how far the crossing lies along an axis, in nanometres: from p by n parts of det along d
abbrev pub crossing_at : ℤ → ℤ → ℤ → ℤ → ℤ
crossing_at p d n det = nearest_ratio (pos 1000 *ℤ ((p *ℤ det) +ℤ (d *ℤ n))) det

-- where the line through p along d crosses the line through q along e, where det isn't 0
abbrev pub crossing : Vector → Vector → Vector → Vector → Vector
crossing p d q e = record { x = crossing_at p.x d.x (cross (way p q) e) (cross d e); y = crossing_at p.y d.y (cross (way p q) e) (cross d e) }

-- no coordinate passes a kilometre
abbrev pub is_near : Vector → Bool
is_near v = nat_le (unsigned_abs v.x) 1000000000000 && nat_le (unsigned_abs v.y) 1000000000000

abbrev pub near_or : Vector → Vector → Vector
near_or v other = if is_near v then v else other

-- where two lines meet as they are drawn, in nanometres; where they are parallel or meet too far away, the first place of the first
abbrev pub meeting : Shape → Shape → Vector
meeting u v =
    (let p = place_of u in let d = direction_of u in let q = place_of v in let e = direction_of v in
    if int_eq (cross d e) (pos 0) then nanometres p else near_or (crossing p d q e) (nanometres p))
