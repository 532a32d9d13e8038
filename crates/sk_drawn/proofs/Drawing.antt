-- How long drawn vectors are.
use Rattle.std.proofs.Common.{◌≡◌, ℕ, zero, suc, ◌+◌, ◌*◌, ◌≤◌, arith, ap, refl}
use Rattle.std.specs.Prelude.{ℤ, pos, ◌+ℤ◌, ◌-ℤ◌, ◌*ℤ◌, unsigned_abs}
use Rattle.std.proofs.lemmas.Int.{ints}
use Rattle.std.proofs.lemmas.Nat.{mul-le}
use Rattle.sk_base.specs.declared.Um.{Um}
use Rattle.sk_base.specs.declared.Shape.{Shape}
use Rattle.sk_base.specs.declared.Shape.TheVariants.{Point, Line, Circle}
use Rattle.sk_base.specs.Drawn.{IsLine}
use Rattle.sk_base.specs.SoundSketch.{IsSoundShape}
use Rattle.sk_base.proofs.Magnitudes.{abs_of_within, square_size}
use Rattle.sk_orient.specs.declared.Vector.{Vector}
use Rattle.sk_orient.specs.DrawnSigns.{IsOnPaper, place_of, direction_of}
use Rattle.sk_orient.specs.Vectors.{IsShort, way, cross, dot}
use Rattle.sk_orient.proofs.Products.{cross_within, dot_within}
use Rattle.sk_drawn.specs.DrawnValues.{square}

-- between two places on paper
pub way_short : (a b : Vector) → IsShort 1000000000 a → IsShort 1000000000 b → IsShort 2000000000 (way a b)
way_short a b p q = (
  (omega (arith, ints, p.0.0, p.0.1, q.0.0, q.0.1), omega (arith, ints, p.0.0, p.0.1, q.0.0, q.0.1)),
  (omega (arith, ints, p.1.0, p.1.1, q.1.0, q.1.1), omega (arith, ints, p.1.0, p.1.1, q.1.0, q.1.1)),
)

pub cross_few : (v w : Vector) → IsShort 2000000000 v → IsShort 2000000000 w → unsigned_abs (cross v w) ≤ 8000000000000000000
cross_few v w p q = abs_of_within 8000000000000000000 (cross v w) (cross_within 2000000000 2000000000 v w p q)

pub dot_few : (v w : Vector) → IsShort 2000000000 v → IsShort 2000000000 w → unsigned_abs (dot v w) ≤ 8000000000000000000
dot_few v w p q = abs_of_within 8000000000000000000 (dot v w) (dot_within 2000000000 2000000000 v w p q)

square_none : (n : ℕ) → n * n ≡ 0 → n ≡ 0
square_none zero is = refl
square_none (suc n) is = let more = mul-le 1 1 (suc n) (suc n) (omega arith) (omega arith) in omega (arith, more, is)

um_exact : (a b : Um) → a.0 ≡ b.0 → a ≡ b
um_exact a b e = let make : ℤ → Um = λ n. record { 0 = n } in ap make e

-- a drawn line has a length
pub line_long : (line : Shape) → IsLine line → IsSoundShape line → 1 ≤ square (direction_of line)
line_long (Point x y) is sound = absurd is
line_long (Circle x y r) is sound = absurd is
line_long (Line x1 y1 x2 y2) is sound =
    some (x2.0 -ℤ x1.0) (y2.0 -ℤ y1.0) (λ x y. (
    sound.4 (um_exact x1 x2 (omega (arith, ints, x)), um_exact y1 y2 (omega (arith, ints, y)))))
  where
    zero_is : (z : ℤ) → unsigned_abs z ≡ 0 → z ≡ pos 0
    zero_is z is = omega (arith, ints)

    some : (x y : ℤ) → (x ≡ pos 0 → y ≡ pos 0 → ⊥) → 1 ≤ unsigned_abs ((x *ℤ x) +ℤ (y *ℤ y))
    some x y apart =
        let size : unsigned_abs ((x *ℤ x) +ℤ (y *ℤ y)) ≡ unsigned_abs x * unsigned_abs x + unsigned_abs y * unsigned_abs y = rw (square_size x, square_size y) (omega (arith, ints)) in
        told (unsigned_abs x * unsigned_abs x) (unsigned_abs y * unsigned_abs y) (unsigned_abs ((x *ℤ x) +ℤ (y *ℤ y))) size
        (λ p q. apart (zero_is x (square_none (unsigned_abs x) p)) (zero_is y (square_none (unsigned_abs y) q)))
      where
        told : (m n k : ℕ) → k ≡ m + n → (m ≡ 0 → n ≡ 0 → ⊥) → 1 ≤ k
        told zero zero k is not = absurd (not refl refl)
        told zero (suc n) k is not = omega (arith, is)
        told (suc m) n k is not = omega (arith, is)

pub line_on_paper : (shape : Shape) → IsSoundShape shape → IsOnPaper shape
line_on_paper (Point x y) sound = sound
line_on_paper (Line x1 y1 x2 y2) sound = (sound.0, sound.1, sound.2, sound.3)
line_on_paper (Circle x y r) sound = (sound.0, sound.1)

place_short : (shape : Shape) → IsOnPaper shape → IsShort 1000000000 (place_of shape)
place_short (Point x y) on = on
place_short (Line x1 y1 x2 y2) on = (on.0, on.1)
place_short (Circle x y r) on = on

pub direction_short : (shape : Shape) → IsOnPaper shape → IsShort 2000000000 (direction_of shape)
direction_short (Point x y) on = ((omega (arith, ints), omega (arith, ints)), (omega (arith, ints), omega (arith, ints)))
direction_short (Line x1 y1 x2 y2) on = way_short (record { x = x1.0; y = y1.0 }) (record { x = x2.0; y = y2.0 }) (on.0, on.1) (on.2, on.3)
direction_short (Circle x y r) on = ((omega (arith, ints), omega (arith, ints)), (omega (arith, ints), omega (arith, ints)))

pub height_few : (line p : Shape) → IsOnPaper line → IsOnPaper p → unsigned_abs (cross (direction_of line) (way (place_of line) (place_of p))) ≤ 8000000000000000000
height_few line p line_on p_on =
    cross_few (direction_of line) (way (place_of line) (place_of p)) (direction_short line line_on) (way_short (place_of line) (place_of p) (place_short line line_on) (place_short p p_on))
