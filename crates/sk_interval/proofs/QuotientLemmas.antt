-- Quotients rounded down and up.
use Rattle.std.proofs.Common.{◌≡◌, ◌≢◌, ℕ, zero, suc, ◌-ℤ◌, ◌+◌, ◌<◌, ℤ, pos, negsuc, ◌+ℤ◌, ◌*ℤ◌, ◌≤ℤ◌, ◌<ℤ◌, refl, arith, ◌∙◌}
use Rattle.std.proofs.lemmas.Int.{ints, by_lt_z}
use Rattle.std.proofs.lemmas.Nat.{mul-le}
use Rattle.std.specs.Int.{int_div_euclid}
use Rattle.std.specs.Prelude.{neg_ℤ}
use Rattle.sk_interval.specs.Rounding.{floor_of, ceil_of}
use Rattle.sk_interval.specs.Around.{IsAtMost, IsAtLeast}
use lib.Signed.{≤ℤ_refl}
use borrow.Author.Differences.{up, down, le_out, lt_out}

-- an order stays under a factor
pub scaled : (a b : ℤ) (k : ℕ) → a ≤ℤ b → (a *ℤ pos k) ≤ℤ (b *ℤ pos k)
scaled a b k h = omega (arith, ints, mul-le (up a + down b) k (up b + down a) k (le_out a b h) (omega arith))

-- and goes back under a factor that is not 0
pub unscaled : (a b : ℤ) (k : ℕ) → (a *ℤ pos (suc k)) ≤ℤ (b *ℤ pos (suc k)) → a ≤ℤ b
unscaled a b k h =
    by_lt_z b a
    (λ lt. absurd (omega (arith, ints, mul-le (up b + down a + 1) (suc k) (up a + down b) (suc k) (omega (arith, lt_out b a lt)) (omega arith))))
    (λ le. le)

pub unscaled_by : (a b : ℤ) (k : ℕ) → 0 < k → (a *ℤ pos k) ≤ℤ (b *ℤ pos k) → a ≤ℤ b
unscaled_by a b zero h le = absurd (omega arith)
unscaled_by a b (suc k) h le = unscaled a b k le

-- the floor by a positive number, between its bounds
pub int_div_euclid-bounds : (n : ℤ) (d : ℕ) → ((int_div_euclid n (pos (suc d)) *ℤ pos (suc d)) ≤ℤ n) × (n <ℤ ((int_div_euclid n (pos (suc d)) *ℤ pos (suc d)) +ℤ pos (suc d)))
int_div_euclid-bounds (pos n) d = (omega (arith, ints), omega (arith, ints))
int_div_euclid-bounds (negsuc n) d = (omega (arith, ints), omega (arith, ints))

-- z is at most n / d exactly where it is at most the floor
pub below_floor : (z n : ℤ) (d : ℕ) → (z *ℤ pos (suc d)) ≤ℤ n → z ≤ℤ floor_of n (pos (suc d))
unfolding floor_of
below_floor z n d h =
    let q : ℤ = int_div_euclid n (pos (suc d)) in
    let bounds = int_div_euclid-bounds n d in
    by_lt_z q z
    (λ lt. absurd (omega (arith, ints, mul-le (up q + down z + 1) (suc d) (up z + down q) (suc d) (omega (arith, lt_out q z lt)) (omega arith))))
    (λ le. le)

pub floor_below : (z n : ℤ) (d : ℕ) → z ≤ℤ floor_of n (pos (suc d)) → (z *ℤ pos (suc d)) ≤ℤ n
unfolding floor_of
floor_below z n d h =
    let bounds = int_div_euclid-bounds n d in
    let more = scaled z (int_div_euclid n (pos (suc d))) (suc d) h in
    omega (arith, ints)

-- a sign comes out of a product
pub neg-product : (a b : ℤ) → neg_ℤ a *ℤ b ≡ neg_ℤ (a *ℤ b)
neg-product (pos zero) b = omega (arith, ints)
neg-product (pos (suc n)) b = omega (arith, ints)
neg-product (negsuc n) b = omega (arith, ints)

pub ceil_above : (z n : ℤ) (d : ℕ) → n ≤ℤ (z *ℤ pos (suc d)) → ceil_of n (pos (suc d)) ≤ℤ z
unfolding ceil_of
ceil_above z n d h =
    let low = below_floor (neg_ℤ z) (neg_ℤ n) d (rw (neg-product z (pos (suc d))) (omega (arith, ints))) in
    omega (arith, ints)

pub above_ceil : (z n : ℤ) (d : ℕ) → ceil_of n (pos (suc d)) ≤ℤ z → n ≤ℤ (z *ℤ pos (suc d))
unfolding ceil_of
above_ceil z n d h =
    let low = rw (neg-product z (pos (suc d))) at (floor_below (neg_ℤ z) (neg_ℤ n) d (omega (arith, ints))) in
    omega (arith, ints)

-- ---- for any divisor but 0

pub floor_of-negative : (n : ℤ) (d : ℕ) → floor_of n (negsuc d) ≡ floor_of (neg_ℤ n) (pos (suc d))
unfolding floor_of
floor_of-negative n d = refl

pub ceil_of-negative : (n : ℤ) (d : ℕ) → ceil_of n (negsuc d) ≡ ceil_of (neg_ℤ n) (pos (suc d))
unfolding floor_of ceil_of
ceil_of-negative n d = refl

pub floor-at_most : (n d : ℤ) → d ≢ pos 0 → IsAtMost (floor_of n d) n d
floor-at_most n (pos zero) h = absurd (h refl)
floor-at_most n (pos (suc d)) h = floor_below _ n d (≤ℤ_refl _)
floor-at_most n (negsuc d) h = rw floor_of-negative (let low = floor_below _ (neg_ℤ n) d (≤ℤ_refl _) in omega (arith, ints))

pub at_most-floor : (z n d : ℤ) → d ≢ pos 0 → IsAtMost z n d → z ≤ℤ floor_of n d
at_most-floor z n (pos zero) h k = absurd (h refl)
at_most-floor z n (pos (suc d)) h k = below_floor z n d k
at_most-floor z n (negsuc d) h k = rw floor_of-negative (below_floor z (neg_ℤ n) d (omega (arith, ints)))

pub ceil-at_least : (n d : ℤ) → d ≢ pos 0 → IsAtLeast (ceil_of n d) n d
ceil-at_least n (pos zero) h = absurd (h refl)
ceil-at_least n (pos (suc d)) h = above_ceil _ n d (≤ℤ_refl _)
ceil-at_least n (negsuc d) h = rw ceil_of-negative (let low = above_ceil _ (neg_ℤ n) d (≤ℤ_refl _) in omega (arith, ints))

pub at_least-ceil : (z n d : ℤ) → d ≢ pos 0 → IsAtLeast z n d → ceil_of n d ≤ℤ z
at_least-ceil z n (pos zero) h k = absurd (h refl)
at_least-ceil z n (pos (suc d)) h k = ceil_above z n d k
at_least-ceil z n (negsuc d) h k = rw ceil_of-negative (ceil_above z (neg_ℤ n) d (omega (arith, ints)))

-- a number at most a floor is at most the fraction, and one at least a ceiling is at least the fraction
pub under_floor : (z n d : ℤ) → d ≢ pos 0 → z ≤ℤ floor_of n d → IsAtMost z n d
under_floor z n (pos zero) h k = absurd (h refl)
under_floor z n (pos (suc d)) h k = floor_below z n d k
under_floor z n (negsuc d) h k = let low = floor_below z (neg_ℤ n) d (rw (← floor_of-negative n d) k) in omega (arith, ints)

pub over_ceil : (z n d : ℤ) → d ≢ pos 0 → ceil_of n d ≤ℤ z → IsAtLeast z n d
over_ceil z n (pos zero) h k = absurd (h refl)
over_ceil z n (pos (suc d)) h k = above_ceil z n d k
over_ceil z n (negsuc d) h k = let high = above_ceil z (neg_ℤ n) d (rw (← ceil_of-negative n d) k) in omega (arith, ints)

-- ---- what the code computes

pub floor_of-above : (n d r : ℤ) → pos 0 <ℤ d → r ≡ int_div_euclid n d → r ≡ floor_of n d
unfolding floor_of
floor_of-above n (pos d) r h e = e
floor_of-above n (negsuc d) r h e = absurd (omega (arith, ints))

pub floor_of-below : (n d r : ℤ) → d ≤ℤ pos 0 → d ≢ pos 0 → r ≡ int_div_euclid (pos 0 -ℤ n) (pos 0 -ℤ d) → r ≡ floor_of n d
unfolding floor_of
floor_of-below n (pos zero) r h k e = absurd (k refl)
floor_of-below n (pos (suc d)) r h k e = absurd (omega (arith, ints))
floor_of-below n (negsuc d) r h k e = e ∙ (let p : pos 0 -ℤ n ≡ neg_ℤ n = omega (arith, ints) in let q : pos 0 -ℤ negsuc d ≡ pos (suc d) = omega (arith, ints) in rw (p, q) refl)

pub ceil_of-is : (n d r : ℤ) → r ≡ floor_of (pos 0 -ℤ n) d → pos 0 -ℤ r ≡ ceil_of n d
unfolding ceil_of
ceil_of-is n d r e = let p : pos 0 -ℤ n ≡ neg_ℤ n = omega (arith, ints) in let q = rw p at e in rw (← q) (omega (arith, ints))
