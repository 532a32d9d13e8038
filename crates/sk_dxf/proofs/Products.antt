-- Bounds of sums and differences of two products.
use Rattle.std.proofs.Common.{ℕ, ◌*◌, ℤ, ◌+ℤ◌, ◌-ℤ◌, ◌*ℤ◌, arith}
use Rattle.std.proofs.lemmas.Int.{ints}
use Rattle.sk_base.specs.Bounds.{IsWithin}
use Rattle.sk_base.proofs.Magnitudes.{product_within}

pub sum_within : (m n : ℕ) (a x b y : ℤ) → IsWithin m a → IsWithin n x → IsWithin m b → IsWithin n y → IsWithin (2 * (m * n)) ((a *ℤ x) +ℤ (b *ℤ y))
sum_within m n a x b y first second third fourth =
    let p = product_within m n a x first second in
    let q = product_within m n b y third fourth in
    (omega (arith, ints, p.0, p.1, q.0, q.1), omega (arith, ints, p.0, p.1, q.0, q.1))

pub difference_within : (m n : ℕ) (a x b y : ℤ) → IsWithin m a → IsWithin n x → IsWithin m b → IsWithin n y → IsWithin (2 * (m * n)) ((a *ℤ x) -ℤ (b *ℤ y))
difference_within m n a x b y first second third fourth =
    let p = product_within m n a x first second in
    let q = product_within m n b y third fourth in
    (omega (arith, ints, p.0, p.1, q.0, q.1), omega (arith, ints, p.0, p.1, q.0, q.1))
