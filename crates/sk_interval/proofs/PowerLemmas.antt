-- Powers of two, between the grids' limits.
use Rattle.std.proofs.Common.{◌≡◌, ℕ, ◌+◌, ◌*◌, ◌≤◌, ◌<◌, ◌^◌, ℤ, ◌+ℤ◌, ◌-ℤ◌, ◌*ℤ◌, pos, unsigned_abs, FitsSigned, ap, ◌∙◌, arith, lit<}
use Rattle.std.proofs.Math.Nat.{pow-le-pow_right}
use Rattle.std.proofs.lemmas.Int.{ints, clamps, fits_signed_from_abs, fits_signed_mul, unsigned_abs-mul}
use Rattle.std.proofs.lemmas.Nat.{mul-le}
use Rattle.std.specs.Int.{w128}
use Rattle.sk_interval.specs.Interval.{one}

pub power_below : (k m : ℕ) → k ≤ m → 2 ^ k ≤ 2 ^ m
power_below k m h = pow-le-pow_right (lit< tt) h

-- the unit of a grid of at least 8 and at most 38 digits
pub power_from_8 : (F : ℕ) → 8 ≤ F → 256 ≤ 2 ^ F
power_from_8 F h = power_below 8 F h

pub power_to_38 : (F : ℕ) → F ≤ 38 → 2 ^ F ≤ 274877906944
power_to_38 F h = power_below F 38 h

-- the limit of an end is that of the finest grid at most
pub end_limit : (F : ℕ) → F ≤ 38 → 2 ^ (50 + F) ≤ 309485009821345068724781056
end_limit F h = power_below (50 + F) 88 (omega arith)

-- an end fits 128 bits
pub end_fits : (F : ℕ) (z : ℤ) → F ≤ 38 → unsigned_abs z ≤ 2 ^ (50 + F) → FitsSigned w128 z
end_fits F z few within = fits_signed_from_abs w128 z (omega (arith, end_limit F few))

-- the sum and the difference of two ends do too
pub sum_fits : (F : ℕ) (x y : ℤ) → F ≤ 38 → unsigned_abs x ≤ 2 ^ (50 + F) → unsigned_abs y ≤ 2 ^ (50 + F) → FitsSigned w128 (x +ℤ y)
sum_fits F x y few p q = omega (arith, ints, end_limit F few)

pub difference_fits : (F : ℕ) (x y : ℤ) → F ≤ 38 → unsigned_abs x ≤ 2 ^ (50 + F) → unsigned_abs y ≤ 2 ^ (50 + F) → FitsSigned w128 (x -ℤ y)
difference_fits F x y few p q = omega (arith, ints, end_limit F few)

pub ruleset powers = (power_from_8, power_to_38, power_below)

pub ruleset limits = (power_from_8, power_to_38, end_limit, ints)

pub unit-positive : (F : ℕ) → 0 < one F
unit-positive F = power_below 0 F (omega arith)

-- a product of two ends fits 128 bits where that of the greater sizes does
pub product_fits : (a b : ℤ) (m n : ℕ) → unsigned_abs a ≤ m → unsigned_abs b ≤ n → m * n ≤ 2 ^ 126 → FitsSigned w128 (a *ℤ b)
product_fits a b m n p q small = fits_signed_mul w128 a b m n p q (omega arith)

-- and its size is within the limit too
pub product_within : (a b : ℤ) (m n limit : ℕ) → unsigned_abs a ≤ m → unsigned_abs b ≤ n → m * n ≤ limit → unsigned_abs (a *ℤ b) ≤ limit
product_within a b m n limit p q small = rw unsigned_abs-mul (omega (arith, mul-le (unsigned_abs a) (unsigned_abs b) m n p q))

-- the size of a number times the unit
pub scaled_size : (F : ℕ) (z n : ℤ) (size : ℕ) → n ≡ z *ℤ pos (one F) → size ≡ unsigned_abs n → size ≡ unsigned_abs z * one F
scaled_size F z n size is of = of ∙ ap unsigned_abs is ∙ unsigned_abs-mul z (pos (one F))

-- what stays within 2 ^ 126 in value fits 128 bits
pub within_fits : (z : ℤ) → unsigned_abs z ≤ 2 ^ 126 → FitsSigned w128 z
within_fits z h = fits_signed_from_abs w128 z (omega arith)

-- so does what is within the widest limit of an end, times the unit
pub scaled_within : (F : ℕ) (n : ℤ) → F ≤ 38 → unsigned_abs n ≤ 2 ^ 88 → unsigned_abs (n *ℤ pos (one F)) ≤ 2 ^ 126
scaled_within F n few h = product_within n (pos (one F)) (2 ^ 88) (2 ^ 38) (2 ^ 126) h (power_to_38 F few) (omega arith)
