-- Distances of what is placed, and how far it is from what is asked, on whole numbers.
use Rattle.std.specs.Prelude.{ℕ, ℤ, pos, ◌+◌, ◌*◌, ◌+ℤ◌, ◌-ℤ◌, ◌*ℤ◌, neg_ℤ, unsigned_abs}
use Rattle.sk_base.specs.declared.Sign.{Sign}
use Rattle.sk_base.specs.declared.Sign.TheVariants.{Plus, Minus}
use Rattle.sk_base.specs.declared.Ratio.{Ratio}

-- the parts of one in which the normal of a placed line is given
abbrev pub billion : ℕ
billion = 1000000000

abbrev pub squared : ℤ → ℕ
squared z = unsigned_abs z * unsigned_abs z

-- the square of the distance of the points (x, y) and (z, t)
abbrev pub distance_squared : ℤ → ℤ → ℤ → ℤ → ℕ
distance_squared x y z t = squared (x -ℤ z) + squared (y -ℤ t)

-- with the sign in front
abbrev pub signed : Sign → ℤ → ℤ
signed Plus z = z
signed Minus z = neg_ℤ z

-- how high the point (x, y) lies above the line a·x + b·y = c
abbrev pub height_above : ℤ → ℤ → ℤ → ℤ → ℤ → ℤ
height_above x y a b c = ((a *ℤ x) +ℤ (b *ℤ y)) -ℤ (pos billion *ℤ c)

-- by how much a height is more than the asked micrometres on that side
abbrev pub height_excess : ℤ → Sign → ℤ → ℤ
height_excess asked side height = signed side height -ℤ (pos billion *ℤ (pos 1000 *ℤ asked))

-- how far it is from them
abbrev pub height_offset : ℤ → Sign → ℤ → ℕ
height_offset asked side height = unsigned_abs (height_excess asked side height)

-- how far the square of the length of the normal (a, b) is from one
abbrev pub normal_offset : ℤ → ℤ → ℕ
normal_offset a b = unsigned_abs (((a *ℤ a) +ℤ (b *ℤ b)) -ℤ pos (billion * billion))

abbrev pub cross : ℤ → ℤ → ℤ → ℤ → ℤ
cross x y z t = (x *ℤ t) -ℤ (y *ℤ z)

abbrev pub dot : ℤ → ℤ → ℤ → ℤ → ℤ
dot x y z t = (x *ℤ z) +ℤ (y *ℤ t)

-- by how much the second normal (d, e) goes further round from the first (a, b) than the asked angle
abbrev pub angle_excess : Ratio → ℤ → ℤ → ℤ → ℤ → ℤ
angle_excess ratio a b d e = (ratio.q *ℤ cross a b d e) -ℤ (ratio.p *ℤ dot a b d e)

-- how far the angle from the one to the other is from the asked one
abbrev pub angle_offset : Ratio → ℤ → ℤ → ℤ → ℤ → ℕ
angle_offset ratio a b d e = unsigned_abs (angle_excess ratio a b d e)

-- the unit of that offset
abbrev pub angle_unit : Ratio → ℕ
angle_unit ratio = billion * (unsigned_abs ratio.p + unsigned_abs ratio.q)
