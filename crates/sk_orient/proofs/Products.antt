-- Bounds of what is made of products of two vectors' parts.
use Rattle.std.proofs.Common.{ℕ, ◌*◌, arith}
use Rattle.std.proofs.lemmas.Int.{ints}
use Rattle.sk_base.specs.declared.measure.Ratio.{Ratio}
use Rattle.sk_base.specs.Bounds.{IsWithin}
use Rattle.sk_base.proofs.Magnitudes.{product_within}
use Rattle.sk_orient.specs.declared.vector.Vector.{Vector}
use Rattle.sk_orient.specs.Vectors.{IsShort, IsSmall, way, cross, dot, rotation}

pub way_short : (most : ℕ) (from to : Vector) → IsShort most from → IsShort most to → IsShort (2 * most) (way from to)
way_short most from to first second = (
  (omega (arith, ints, first.0.0, first.0.1, second.0.0, second.0.1), omega (arith, ints, first.0.0, first.0.1, second.0.0, second.0.1)),
  (omega (arith, ints, first.1.0, first.1.1, second.1.0, second.1.1), omega (arith, ints, first.1.0, first.1.1, second.1.0, second.1.1)),
)

pub cross_within : (m n : ℕ) (v w : Vector) → IsShort m v → IsShort n w → IsWithin (2 * (m * n)) (cross v w)
cross_within m n v w first second =
    let p = product_within m n v.x w.y first.0 second.1 in
    let q = product_within m n v.y w.x first.1 second.0 in
    (omega (arith, ints, p.0, p.1, q.0, q.1), omega (arith, ints, p.0, p.1, q.0, q.1))

pub dot_within : (m n : ℕ) (v w : Vector) → IsShort m v → IsShort n w → IsWithin (2 * (m * n)) (dot v w)
dot_within m n v w first second =
    let p = product_within m n v.x w.x first.0 second.0 in
    let q = product_within m n v.y w.y first.1 second.1 in
    (omega (arith, ints, p.0, p.1, q.0, q.1), omega (arith, ints, p.0, p.1, q.0, q.1))

pub rotation_within : (m : ℕ) (v w : Vector) (ratio : Ratio) → IsShort m v → IsShort m w → IsSmall ratio → IsWithin (40000 * (m * m)) (rotation v w ratio)
rotation_within m v w ratio first second small =
    let p = product_within 10000 (2 * (m * m)) ratio.q (dot v w) small.1 (dot_within m m v w first second) in
    let q = product_within 10000 (2 * (m * m)) ratio.p (cross v w) small.0 (cross_within m m v w first second) in
    (omega (arith, ints, p.0, p.1, q.0, q.1), omega (arith, ints, p.0, p.1, q.0, q.1))
