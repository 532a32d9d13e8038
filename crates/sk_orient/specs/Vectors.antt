-- Vectors of whole numbers.
use Rattle.std.specs.Prelude.{ℕ, ℤ, ◌+ℤ◌, ◌-ℤ◌, ◌*ℤ◌}
use Rattle.sk_base.specs.declared.measure.Ratio.{Ratio}
use Rattle.sk_base.specs.Bounds.{IsWithin}
use Rattle.sk_orient.specs.declared.vector.Vector.{Vector}

-- both coordinates are at most so much in absolute value
abbrev pub IsShort : ℕ → Vector → Type 0
IsShort most v = IsWithin most v.x × IsWithin most v.y

-- both terms of the ratio are within the limit
abbrev pub IsSmall : Ratio → Type 0
IsSmall ratio = IsWithin 10000 ratio.p × IsWithin 10000 ratio.q

-- from the one place to the other
abbrev pub way : Vector → Vector → Vector
way from to = record { x = to.x -ℤ from.x; y = to.y -ℤ from.y }

-- above 0 where the second turns to the left of the first
abbrev pub cross : Vector → Vector → ℤ
cross v w = (v.x *ℤ w.y) -ℤ (v.y *ℤ w.x)

-- above 0 where the second points forward along the first
abbrev pub dot : Vector → Vector → ℤ
dot v w = (v.x *ℤ w.x) +ℤ (v.y *ℤ w.y)

-- above 0 where the second goes forward along the first when that is turned by the angle of tangent p/q: by q parts
-- along itself and p parts to its left
abbrev pub rotation : Vector → Vector → Ratio → ℤ
rotation v w ratio = (ratio.q *ℤ dot v w) +ℤ (ratio.p *ℤ cross v w)
