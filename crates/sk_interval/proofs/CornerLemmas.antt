-- The least and the greatest of the results at four corners.
use Rattle.std.proofs.Common.{ℕ, ◌≤◌, ℤ, ◌≤ℤ◌, unsigned_abs, arith}
use Rattle.std.proofs.lemmas.Int.{ints, clamps}
use Rattle.std.specs.Int.{int_min, int_max}

-- the least and the greatest of four numbers within a limit
pub least_within : (p q r s : ℤ) (limit : ℕ) → unsigned_abs p ≤ limit → unsigned_abs q ≤ limit → unsigned_abs r ≤ limit → unsigned_abs s ≤ limit
    → unsigned_abs (int_min (int_min p q) (int_min r s)) ≤ limit
least_within p q r s limit a b c d = omega (arith, ints, clamps)

pub greatest_within : (p q r s : ℤ) (limit : ℕ) → unsigned_abs p ≤ limit → unsigned_abs q ≤ limit → unsigned_abs r ≤ limit → unsigned_abs s ≤ limit
    → unsigned_abs (int_max (int_max p q) (int_max r s)) ≤ limit
greatest_within p q r s limit a b c d = omega (arith, ints, clamps)

pub least_below_greatest : (p q r s : ℤ) → int_min (int_min p q) (int_min r s) ≤ℤ int_max (int_max p q) (int_max r s)
least_below_greatest p q r s = omega (arith, ints, clamps)

pub min_below_max : (p q r s a b c d : ℤ) → p ≤ℤ a → int_min (int_min p q) (int_min r s) ≤ℤ int_max (int_max a b) (int_max c d)
min_below_max p q r s a b c d h = omega (arith, ints, clamps)

pub below_least : (z a b c d : ℤ) → z ≤ℤ a → z ≤ℤ b → z ≤ℤ c → z ≤ℤ d → z ≤ℤ int_min (int_min a b) (int_min c d)
below_least z a b c d p q r s = omega (arith, ints, clamps)

pub least_below : (z a b c d : ℤ) → z ≤ℤ int_min (int_min a b) (int_min c d) → (z ≤ℤ a) × (z ≤ℤ b) × (z ≤ℤ c) × (z ≤ℤ d)
least_below z a b c d h = (omega (arith, ints, clamps), omega (arith, ints, clamps), omega (arith, ints, clamps), omega (arith, ints, clamps))

pub above_greatest : (z a b c d : ℤ) → a ≤ℤ z → b ≤ℤ z → c ≤ℤ z → d ≤ℤ z → int_max (int_max a b) (int_max c d) ≤ℤ z
above_greatest z a b c d p q r s = omega (arith, ints, clamps)

pub greatest_above : (z a b c d : ℤ) → int_max (int_max a b) (int_max c d) ≤ℤ z → (a ≤ℤ z) × (b ≤ℤ z) × (c ≤ℤ z) × (d ≤ℤ z)
greatest_above z a b c d h = (omega (arith, ints, clamps), omega (arith, ints, clamps), omega (arith, ints, clamps), omega (arith, ints, clamps))
