-- Quotients and roots of intervals.
use Rattle.std.proofs.Common.{◌≡◌, ◌≢◌, ◌⊎◌, inl, inr, sym, ℕ, zero, suc, ◌*◌, ℤ, pos, negsuc, neg_ℤ, ◌*ℤ◌, ◌≤ℤ◌, ◌<ℤ◌, unsigned_abs, Ok, Err, refl, arith, true, false}
use Rattle.std.proofs.lemmas.Bool.{cases_Bool}
use Rattle.std.proofs.lemmas.Int.{ints, by_lt_z}
use Rattle.std.specs.Int.{int_min, int_max}
use Rattle.sk_root.specs.Roots.{floor_root, ceil_root}
use Rattle.sk_interval.specs.declared.interval.Cause.TheVariants.{Flat, Gap}
use Rattle.sk_interval.specs.Interval.{Interval, one}
use Rattle.sk_interval.specs.Rounding.{floor_of, ceil_of}
use Rattle.sk_interval.specs.Operations.{bounded, quotient, root, holds_zero, least_at, greatest_at}
use Rattle.sk_interval.proofs.CornerLemmas.{min_below_max}
use lib.Signed.{≤ℤ_refl}
use Rattle.sk_interval.proofs.AroundLemmas.{floor_below_ceil}
use Rattle.sk_interval.proofs.QuotientLemmas.{floor_of-negative, ceil_of-negative}

pub quotient-flat : (F : ℕ) (x y : Interval) → holds_zero y ≡ true → quotient F x y ≡ Err (Flat y.lo y.hi)
unfolding quotient
quotient-flat F x y zero_in = rw zero_in refl

pub quotient-bounded : (F : ℕ) (x y : Interval) → holds_zero y ≡ false
    → bounded 50 F (record { lo = least_at (λ a b. floor_of (a *ℤ pos (one F)) b) x y; hi = greatest_at (λ a b. ceil_of (a *ℤ pos (one F)) b) x y }) ≡ quotient F x y
unfolding quotient
quotient-bounded F x y zero_out = rw zero_out refl

pub root-real : (F : ℕ) (x : Interval) → pos 0 <ℤ x.lo → Ok (record { lo = pos (floor_root (unsigned_abs x.lo * one F)); hi = pos (ceil_root (unsigned_abs x.hi * one F)) }) ≡ root F x
unfolding root
root-real F x positive = grind (arith, ints)

pub root-gap : (F : ℕ) (x : Interval) → x.lo ≤ℤ pos 0 → x.hi <ℤ pos 0 → Err (Gap x.lo x.hi) ≡ root F x
unfolding root
root-gap F x low high = grind (arith, ints)

pub root-flat : (F : ℕ) (x : Interval) → x.lo ≤ℤ pos 0 → pos 0 ≤ℤ x.hi → Err (Flat x.lo x.hi) ≡ root F x
unfolding root
root-flat F x low high = grind (arith, ints)

-- no end is zero where zero is outside
pub ends_nonzero : (y : Interval) → y.lo ≤ℤ y.hi → holds_zero y ≡ false → (y.lo ≢ pos 0) × (y.hi ≢ pos 0)
ends_nonzero y ordered zero_out = (λ e. grind (arith, ints, e), λ e. grind (arith, ints, e))

pub floor_below_its_ceil : (n d : ℤ) → d ≢ pos 0 → floor_of n d ≤ℤ ceil_of n d
floor_below_its_ceil n (pos zero) h = absurd (h refl)
floor_below_its_ceil n (pos (suc d)) h = floor_below_ceil n n (suc d) (omega arith) (≤ℤ_refl n)
floor_below_its_ceil n (negsuc d) h = rw (floor_of-negative, ceil_of-negative) (floor_below_ceil (neg_ℤ n) (neg_ℤ n) (suc d) (omega arith) (≤ℤ_refl _))

pub least_below_greatest_ratio : (a b c d : ℤ) → c ≢ pos 0
    → int_min (int_min (floor_of a c) (floor_of a d)) (int_min (floor_of b c) (floor_of b d)) ≤ℤ int_max (int_max (ceil_of a c) (ceil_of a d)) (int_max (ceil_of b c) (ceil_of b d))
least_below_greatest_ratio a b c d h = min_below_max (floor_of a c) (floor_of a d) (floor_of b c) (floor_of b d) (ceil_of a c) (ceil_of a d) (ceil_of b c) (ceil_of b d) (floor_below_its_ceil a c h)

pub zero_cases : (x : Interval) → (holds_zero x ≡ true) ⊎ (holds_zero x ≡ false)
zero_cases x = cases_Bool (holds_zero x)

pub root_cases : (F : ℕ) (x : Interval) → ((pos 0 <ℤ x.lo) × (root F x ≡ Ok (record { lo = pos (floor_root (unsigned_abs x.lo * one F)); hi = pos (ceil_root (unsigned_abs x.hi * one F)) })))
    ⊎ (((x.hi <ℤ pos 0) × (root F x ≡ Err (Gap x.lo x.hi))) ⊎ (root F x ≡ Err (Flat x.lo x.hi)))
root_cases F x = by_lt_z (pos 0) x.lo
    (λ up. inl (up, sym (root-real F x up)))
    (λ low. by_lt_z x.hi (pos 0) (λ down. inr (inl (down, sym (root-gap F x low down)))) (λ high. inr (inr (sym (root-flat F x low high)))))
