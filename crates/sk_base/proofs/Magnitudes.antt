-- Integers by their size: bounds of one, of a product, and what fits in 128 bits.
use Rattle.std.proofs.Common.{◌≡◌, ℕ, ◌*◌, ◌≤◌, ◌<◌, ◌^◌, ℤ, pos, negsuc, ◌*ℤ◌, ◌≤ℤ◌, unsigned_abs, FitsSigned, arith}
use Rattle.std.proofs.lemmas.Int.{ints, unsigned_abs-mul, fits_signed_from_abs}
use Rattle.std.proofs.lemmas.Nat.{mul-le}
use Rattle.std.specs.Int.{w128}
use Rattle.sk_base.specs.Bounds.{IsWithin}

-- two of which each is at most the other are the same
pub ≤ℤ_antisymm : (a b : ℤ) → a ≤ℤ b → b ≤ℤ a → a ≡ b
≤ℤ_antisymm a b h k = omega (arith, ints)

pub square_size : (z : ℤ) → z *ℤ z ≡ pos (unsigned_abs z * unsigned_abs z)
square_size (pos n) = omega (arith, ints)
square_size (negsuc n) = omega (arith, ints)

pub abs_of_within : (most : ℕ) (z : ℤ) → IsWithin most z → unsigned_abs z ≤ most
abs_of_within most z within = omega (arith, ints, within.0, within.1)

pub within_of_abs : (most : ℕ) (z : ℤ) → unsigned_abs z ≤ most → IsWithin most z
within_of_abs most z few = (omega (arith, ints), omega (arith, ints))

pub product_within : (m n : ℕ) (a b : ℤ) → IsWithin m a → IsWithin n b → IsWithin (m * n) (a *ℤ b)
product_within m n a b first second =
    within_of_abs (m * n) (a *ℤ b) (rw unsigned_abs-mul (mul-le _ _ m n (abs_of_within m a first) (abs_of_within n b second)))

-- so much is within 128 bits
pub fits : (most : ℕ) (z : ℤ) → IsWithin most z → most < 2 ^ 127 → FitsSigned w128 z
fits most z within few =
    fits_signed_from_abs w128 z (let size = abs_of_within most z within in omega (arith, size, few))
