-- How great products and sums of signed numbers can be.
use Rattle.std.proofs.Common.{ℕ, ℤ, pos, ◌+◌, ◌*◌, ◌≤◌, ◌^◌, ◌+ℤ◌, ◌-ℤ◌, ◌*ℤ◌, unsigned_abs, FitsSigned, arith}
use Rattle.std.proofs.lemmas.Int.{ints, unsigned_abs-mul}
use Rattle.std.proofs.lemmas.Nat.{mul-le}
use Rattle.std.specs.Int.{w32, w64, w128}
use Rattle.sk_base.specs.Bounds.{IsWithin, IsFromTo}
use Rattle.sk_measure.specs.Offsets.{billion, height_above}

pub abs_within : (most : ℕ) (z : ℤ) → IsWithin most z → unsigned_abs z ≤ most
abs_within most z within = omega (arith, ints, within.0, within.1)

pub size_from_to : (most : ℕ) (z : ℤ) → IsFromTo 0 most z → unsigned_abs z ≤ most
size_from_to most z within = omega (arith, ints, within.0, within.1)

-- a length of a place and a part of a normal fit 64 bits
pub length_fits : (z : ℤ) → IsWithin 1152921504606846976 z → FitsSigned w64 z
length_fits z within = omega (arith, ints, within.0, within.1)

pub normal_fits : (z : ℤ) → IsWithin 2000000000 z → FitsSigned w64 z
normal_fits z within = omega (arith, ints, within.0, within.1)

-- and so do the numbers of a tangent, also 32
pub tangent_fits : (z : ℤ) → unsigned_abs z ≤ 10000 → FitsSigned w32 z × FitsSigned w64 z
tangent_fits z few = (omega (arith, ints), omega (arith, ints))

pub product_bound : (a b : ℤ) (m n : ℕ) → unsigned_abs a ≤ m → unsigned_abs b ≤ n → unsigned_abs (a *ℤ b) ≤ m * n
product_bound a b m n p q = omega (arith, unsigned_abs-mul a b, mul-le (unsigned_abs a) (unsigned_abs b) m n p q)

sum_bound : (p q r : ℤ) (k m n : ℕ) → unsigned_abs p ≤ k → unsigned_abs q ≤ m → unsigned_abs r ≤ n → unsigned_abs ((p +ℤ q) -ℤ r) ≤ k + m + n
sum_bound p q r k m n h i j = omega (arith, ints)

pub difference_bound : (p q : ℤ) (k m : ℕ) → unsigned_abs p ≤ k → unsigned_abs q ≤ m → unsigned_abs (p -ℤ q) ≤ k + m
difference_bound p q k m h i = omega (arith, ints)

-- a difference of what `scaled` gives fits 128 bits
pub difference_fits : (p q : ℤ) → unsigned_abs p ≤ 2 ^ 95 → unsigned_abs q ≤ 2 ^ 95 → FitsSigned w128 (p -ℤ q)
difference_fits p q h i = omega (arith, ints)

pub angle_bound : (p q along across : ℤ) → unsigned_abs p ≤ 10000 → unsigned_abs q ≤ 10000 → unsigned_abs along ≤ 2 ^ 63 → unsigned_abs across ≤ 2 ^ 63
    → unsigned_abs ((q *ℤ along) -ℤ (p *ℤ across)) ≤ 2 ^ 63 * billion
angle_bound p q along across few_p few_q few_along few_across =
    omega (arith, difference_bound (q *ℤ along) (p *ℤ across) (10000 * 2 ^ 63) (10000 * 2 ^ 63) (product_bound q along 10000 (2 ^ 63) few_q few_along) (product_bound p across 10000 (2 ^ 63) few_p few_across))

pub height_bound : (x y a b c : ℤ) → unsigned_abs x ≤ 2 ^ 60 → unsigned_abs y ≤ 2 ^ 60 → unsigned_abs a ≤ 2 * billion → unsigned_abs b ≤ 2 * billion → unsigned_abs c ≤ 2 ^ 60
    → unsigned_abs (height_above x y a b c) ≤ 5 * billion * 2 ^ 60
height_bound x y a b c hx hy ha hb hc =
    sum_bound (a *ℤ x) (b *ℤ y) (pos billion *ℤ c) (2 * billion * 2 ^ 60) (2 * billion * 2 ^ 60) (billion * 2 ^ 60)
    (product_bound a x (2 * billion) (2 ^ 60) ha hx) (product_bound b y (2 * billion) (2 ^ 60) hb hy) (product_bound (pos billion) c billion (2 ^ 60) (omega arith) hc)
