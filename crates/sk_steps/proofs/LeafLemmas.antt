-- Frames have no fault.
use Rattle.std.proofs.Common.{◌≡◌, ◌≢◌, ℕ, zero, suc, ◌+◌, ◌*◌, ◌≤◌, ◌<◌, ◌^◌, ℤ, pos, ◌+ℤ◌, ◌*ℤ◌, ◌≤ℤ◌, ◌<ℤ◌, unsigned_abs, false, inl, inr, Ok, sym, ◌∙◌, arith}
use Rattle.std.proofs.lemmas.Int.{ints, unsigned_abs-mul}
use Rattle.std.proofs.lemmas.Nat.{mul-le, pow-add}
use native.Mathlib.Nat.{le_refl}
use Rattle.std.proofs.lemmas.Bool.{cases_lt}
use Rattle.sk_base.specs.declared.Sign.{Sign}
use Rattle.sk_base.specs.declared.Sign.TheVariants.{Plus, Minus}
use Rattle.sk_base.proofs.Magnitudes.{square_size}
use Rattle.sk_root.specs.Roots.{floor_root, ceil_root}
use Rattle.sk_root.proofs.RootLemmas.{root_below, floor_root-bounds}
use Rattle.sk_interval.specs.Interval.{Interval, one}
use Rattle.sk_interval.specs.Rounding.{floor_of, ceil_of}
use Rattle.sk_interval.specs.Operations.{of_micrometres, whole, negative, root, quotient, holds_zero, length_of, normal_of, bounded, least_at, greatest_at}
use Rattle.sk_steps.specs.Expressions.{with_sign}
use Rattle.sk_interval.proofs.PowerLemmas.{power_below}
use Rattle.sk_interval.proofs.CornerLemmas.{least_within, greatest_within}
use Rattle.sk_interval.proofs.AroundLemmas.{quotients_bounded}
use Rattle.sk_interval.proofs.ProductLemmas.{bounded-ok}
use Rattle.sk_interval.proofs.RatioLemmas.{root-real, quotient-bounded}
use Rattle.sk_interval.proofs.SquareLemmas.{floor_root_below_ceil_root}

-- ---- lengths and whole numbers

pub micrometres_within : (F : ℕ) (v : ℤ) → unsigned_abs v ≤ 2000000000 → (unsigned_abs (of_micrometres F v).lo ≤ 2 ^ (40 + F)) × (unsigned_abs (of_micrometres F v).hi ≤ 2 ^ (40 + F))
micrometres_within F v small =
    let n : ℤ = v *ℤ pos (one F) in
    let size : unsigned_abs n ≤ 2 ^ (40 + F) * 1000 =
    rw unsigned_abs-mul (omega (arith, pow-add 2 40 F, mul-le (unsigned_abs v) (2 ^ F) 2000000000 (2 ^ F) small (le_refl _))) in
    let b = quotients_bounded n n 1000 (2 ^ (40 + F)) (omega arith) (omega (arith, ints)) size size in
    (b.lo_within, b.hi_within)

pub length-ok : (F : ℕ) (side : Sign) (v : ℤ) → unsigned_abs v ≤ 2000000000 → length_of F (with_sign side (of_micrometres F v)) ≡ Ok (with_sign side (of_micrometres F v))
length-ok F Plus v small = let h = micrometres_within F v small in bounded-ok 40 F (of_micrometres F v) h.0 h.1
length-ok F Minus v small = let h = micrometres_within F v small in bounded-ok 40 F (negative (of_micrometres F v)) (omega (arith, ints, h.1)) (omega (arith, ints, h.0))

pub whole-ok : (k F n : ℕ) → n ≤ 2 ^ k → bounded k F (whole F (pos n)) ≡ Ok (whole F (pos n))
whole-ok k F n small =
    let size : n * 2 ^ F ≤ 2 ^ (k + F) = omega (arith, pow-add 2 k F, mul-le n (2 ^ F) (2 ^ k) (2 ^ F) small (le_refl _)) in
    bounded-ok k F (whole F (pos n)) size size

-- ---- a part of a normal

abbrev pub norm : ℕ → ℕ → Interval
norm F s = record { lo = pos (floor_root (s * one F * one F)); hi = pos (ceil_root (s * one F * one F)) }

unit_positive : (F : ℕ) → 1 ≤ 2 ^ F
unit_positive F = power_below 0 F (omega arith)

pub root-ok : (F s : ℕ) → 0 < s → root F (whole F (pos s)) ≡ Ok (norm F s)
root-ok F s h =
    let positive : 0 < s * 2 ^ F = omega (arith, mul-le 1 1 s (2 ^ F) h (unit_positive F)) in
    sym (root-real F (whole F (pos s)) (omega (arith, ints)))

-- a number whose square is at most s is at most s
pub below_square : (n s : ℕ) → n * n ≤ s → n ≤ s
below_square zero s h = omega arith
below_square (suc n) s h = omega (arith, mul-le 1 (suc n) (suc n) (suc n) (omega arith) (le_refl _))

-- a number whose square is at most s is at most the root of s
below_norm : (F m s : ℕ) → m * m ≤ s → m * 2 ^ F ≤ floor_root (s * 2 ^ F * 2 ^ F)
below_norm F m s h =
    let b = floor_root-bounds (s * 2 ^ F * 2 ^ F) in
    root_below (m * 2 ^ F) (floor_root (s * 2 ^ F * 2 ^ F)) (s * 2 ^ F * 2 ^ F) (omega (arith, mul-le (m * m) (2 ^ F * 2 ^ F) s (2 ^ F * 2 ^ F) h (le_refl _))) b.1

abbrev pub ratio : ℕ → ℤ → ℕ → Interval
ratio F n s = record { lo = least_at (λ a b. floor_of (a *ℤ pos (one F)) b) (whole F n) (norm F s); hi = greatest_at (λ a b. ceil_of (a *ℤ pos (one F)) b) (whole F n) (norm F s) }

-- one of its corners
corner_within : (F : ℕ) (n : ℤ) (d : ℕ) → unsigned_abs n * 2 ^ F ≤ d → 0 < d
    → (unsigned_abs (floor_of ((n *ℤ pos (2 ^ F)) *ℤ pos (2 ^ F)) (pos d)) ≤ 2 ^ F) × (unsigned_abs (ceil_of ((n *ℤ pos (2 ^ F)) *ℤ pos (2 ^ F)) (pos d)) ≤ 2 ^ F)
corner_within F n d below positive =
    let top : ℤ = (n *ℤ pos (2 ^ F)) *ℤ pos (2 ^ F) in
    let size : unsigned_abs top ≤ 2 ^ F * d =
    rw unsigned_abs-mul (rw unsigned_abs-mul (omega (arith, mul-le (unsigned_abs n * 2 ^ F) (2 ^ F) d (2 ^ F) below (le_refl _)))) in
    let b = quotients_bounded top top d (2 ^ F) positive (omega (arith, ints)) size size in
    (b.lo_within, b.hi_within)

pub record IsPart (F : ℕ) (n : ℤ) (s : ℕ) : Type 0 where
  pub zero_out : holds_zero (norm F s) ≡ false
  pub lo_within : unsigned_abs (ratio F n s).lo ≤ 2 ^ F
  pub hi_within : unsigned_abs (ratio F n s).hi ≤ 2 ^ F

pub part_within : (F : ℕ) (n : ℤ) (s : ℕ) → unsigned_abs n * unsigned_abs n ≤ s → 0 < s → IsPart F n s
part_within F n s h positive =
    let radicand : ℕ = s * 2 ^ F * 2 ^ F in
    let floors : ℕ → ℤ = λ d. floor_of ((n *ℤ pos (2 ^ F)) *ℤ pos (2 ^ F)) (pos d) in
    let ceils : ℕ → ℤ = λ d. ceil_of ((n *ℤ pos (2 ^ F)) *ℤ pos (2 ^ F)) (pos d) in
    let first = below_norm F (unsigned_abs n) s h in
    let above_zero : 0 < floor_root radicand = omega (arith, below_norm F 1 s positive, unit_positive F) in
    let order = floor_root_below_ceil_root radicand radicand (le_refl _) in
    let low = corner_within F n (floor_root radicand) first above_zero in
    let high = corner_within F n (ceil_root radicand) (omega arith) (omega arith) in
    record {
      zero_out = grind (arith, ints);
      lo_within = least_within (floors (floor_root radicand)) (floors (ceil_root radicand)) (floors (floor_root radicand)) (floors (ceil_root radicand)) (2 ^ F) low.0 high.0 low.0 high.0;
      hi_within = greatest_within (ceils (floor_root radicand)) (ceils (ceil_root radicand)) (ceils (floor_root radicand)) (ceils (ceil_root radicand)) (2 ^ F) low.1 high.1 low.1 high.1;
    }

pub quotient-ok : (F : ℕ) (n : ℤ) (s : ℕ) → unsigned_abs n * unsigned_abs n ≤ s → 0 < s → quotient F (whole F n) (norm F s) ≡ Ok (ratio F n s)
quotient-ok F n s h positive =
    let p = part_within F n s h positive in
    let wide = power_below F (50 + F) (omega arith) in
    sym (quotient-bounded F (whole F n) (norm F s) p.zero_out) ∙ bounded-ok 50 F (ratio F n s) (omega (arith, p.lo_within, wide)) (omega (arith, p.hi_within, wide))

pub normal-ok : (F : ℕ) (n : ℤ) (s : ℕ) → unsigned_abs n * unsigned_abs n ≤ s → 0 < s → normal_of F (ratio F n s) ≡ Ok (ratio F n s)
normal-ok F n s h positive =
    let p = part_within F n s h positive in
    let wide = power_below F (1 + F) (omega arith) in
    bounded-ok 1 F (ratio F n s) (omega (arith, p.lo_within, wide)) (omega (arith, p.hi_within, wide))

-- ---- the square of a ratio

pub record IsSquare (p q : ℤ) (s : ℤ) : Type 0 where
  pub positive : pos 0 <ℤ s
  pub most : s ≤ℤ pos 200000000
  pub p_least : unsigned_abs p * unsigned_abs p ≤ unsigned_abs s
  pub q_least : unsigned_abs q * unsigned_abs q ≤ unsigned_abs s

pub square_within : (p q : ℤ) → p ≢ pos 0 → unsigned_abs p ≤ 10000 → unsigned_abs q ≤ 10000 → IsSquare p q ((p *ℤ p) +ℤ (q *ℤ q))
square_within p q slanted p_within q_within =
    let a : ℕ = unsigned_abs p in
    let b : ℕ = unsigned_abs q in
    let nonzero : 0 < a = elim (cases_lt 0 a) [ inl h ↦ h | inr h ↦ absurd (slanted (omega (arith, ints))) ] in
    let least = mul-le 1 1 a a nonzero nonzero in
    let p_most = mul-le a a 10000 10000 p_within p_within in
    let q_most = mul-le b b 10000 10000 q_within q_within in
    rw (square_size p, square_size q) (record { positive = omega (arith, ints); most = omega (arith, ints); p_least = omega (arith, ints); q_least = omega (arith, ints) })
