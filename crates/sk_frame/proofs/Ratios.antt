-- Fractions on a grid.
use Rattle.std.proofs.Common.{◌≡◌, ℕ, ◌+◌, ◌*◌, ◌^◌, ◌<◌, ◌≤◌, ℤ, pos, ◌*ℤ◌, ◌≤ℤ◌, unsigned_abs, Ok, false, sym, ap, ◌∙◌, arith}
use Rattle.std.proofs.lemmas.Int.{ints, unsigned_abs-mul}
use Rattle.std.proofs.lemmas.Nat.{mul-le, pow-add}
use Rattle.std.specs.Int.{int_min, int_max}
use native.Mathlib.Nat.{le_refl}
use Rattle.std.specs.Int.Signed.{≤ℤ_refl}
use Rattle.sk_base.proofs.Magnitudes.{≤ℤ_antisymm}
use Rattle.sk_interval.proofs.CornerLemmas.{below_least, least_below, above_greatest, greatest_above}
use Rattle.sk_interval.specs.Interval.{Interval, one}
use Rattle.sk_interval.specs.Rounding.{floor_of, ceil_of}
use Rattle.sk_interval.specs.Operations.{whole, quotient, bounded, holds_zero, least_at, greatest_at}
use Rattle.sk_interval.proofs.QuotientLemmas.{floor-at_most, at_most-floor, ceil-at_least, at_least-ceil, scaled, unscaled_by}
use Rattle.sk_interval.proofs.AroundLemmas.{pos-nonzero, quotients_bounded}
use Rattle.sk_interval.proofs.PowerLemmas.{unit-positive, power_below}
use Rattle.sk_interval.proofs.ProductLemmas.{bounded-ok}
use Rattle.sk_interval.proofs.RatioLemmas.{quotient-bounded}
use Rattle.sk_interval.proofs.ScaleLemmas.{scale-scale}
use Rattle.sk_frame.specs.FrameMotions.{ratio}

-- a common factor leaves a floor and a ceiling as they are
pub floor_common : (a : ℤ) (d k : ℕ) → 0 < d → 0 < k → floor_of (a *ℤ pos k) (pos (d * k)) ≡ floor_of a (pos d)
floor_common a d k d_some k_some =
    let both : 0 < d * k = mul-le 1 1 d k d_some k_some in
    let z : ℤ = floor_of (a *ℤ pos k) (pos (d * k)) in
    let w : ℤ = floor_of a (pos d) in
    let low : (z *ℤ pos (d * k)) ≤ℤ (a *ℤ pos k) = floor-at_most (a *ℤ pos k) (pos (d * k)) (pos-nonzero (d * k) both) in
    let up : (w *ℤ pos d) ≤ℤ a = floor-at_most a (pos d) (pos-nonzero d d_some) in
    ≤ℤ_antisymm z w
    (at_most-floor z a (pos d) (pos-nonzero d d_some) (unscaled_by (z *ℤ pos d) a k k_some (rw (scale-scale z d k) low)))
    (at_most-floor w (a *ℤ pos k) (pos (d * k)) (pos-nonzero (d * k) both) (rw (← scale-scale w d k) (scaled (w *ℤ pos d) a k up)))

pub ceil_common : (a : ℤ) (d k : ℕ) → 0 < d → 0 < k → ceil_of (a *ℤ pos k) (pos (d * k)) ≡ ceil_of a (pos d)
ceil_common a d k d_some k_some =
    let both : 0 < d * k = mul-le 1 1 d k d_some k_some in
    let z : ℤ = ceil_of (a *ℤ pos k) (pos (d * k)) in
    let w : ℤ = ceil_of a (pos d) in
    let high : (a *ℤ pos k) ≤ℤ (z *ℤ pos (d * k)) = ceil-at_least (a *ℤ pos k) (pos (d * k)) (pos-nonzero (d * k) both) in
    let up : a ≤ℤ (w *ℤ pos d) = ceil-at_least a (pos d) (pos-nonzero d d_some) in
    ≤ℤ_antisymm z w
    (at_least-ceil w (a *ℤ pos k) (pos (d * k)) (pos-nonzero (d * k) both) (rw (← scale-scale w d k) (scaled a (w *ℤ pos d) k up)))
    (at_least-ceil z a (pos d) (pos-nonzero d d_some) (unscaled_by a (z *ℤ pos d) k k_some (rw (scale-scale z d k) high)))

-- the least and the greatest of four that are one
pub least_same : (p : ℤ) → int_min (int_min p p) (int_min p p) ≡ p
least_same p = ≤ℤ_antisymm (int_min (int_min p p) (int_min p p)) p (least_below (int_min (int_min p p) (int_min p p)) p p p p (≤ℤ_refl _)).0 (below_least p p p p p (≤ℤ_refl p) (≤ℤ_refl p) (≤ℤ_refl p) (≤ℤ_refl p))

pub greatest_same : (p : ℤ) → int_max (int_max p p) (int_max p p) ≡ p
greatest_same p = ≤ℤ_antisymm (int_max (int_max p p) (int_max p p)) p (above_greatest p p p p p (≤ℤ_refl p) (≤ℤ_refl p) (≤ℤ_refl p) (≤ℤ_refl p)) (greatest_above (int_max (int_max p p) (int_max p p)) p p p p (≤ℤ_refl _)).0

pub ratio_within : (F : ℕ) (n : ℤ) (d : ℕ) → 0 < d → unsigned_abs n ≤ 1000000000000 → (unsigned_abs (ratio F d n).lo ≤ 2 ^ (40 + F)) × (unsigned_abs (ratio F d n).hi ≤ 2 ^ (40 + F))
ratio_within F n d d_some small =
    let top : ℤ = n *ℤ pos (one F) in
    let size : unsigned_abs top ≤ 2 ^ (40 + F) * d =
    rw unsigned_abs-mul (omega (arith, pow-add 2 40 F, mul-le (unsigned_abs n) (2 ^ F) (2 ^ 40) (2 ^ F) (omega arith) (le_refl _), mul-le (2 ^ (40 + F)) 1 (2 ^ (40 + F)) d (le_refl _) d_some)) in
    let b = quotients_bounded top top d (2 ^ (40 + F)) d_some (omega (arith, ints)) size size in
    (b.lo_within, b.hi_within)

-- a whole number by another is the least interval around their fraction
pub ratio_is : (F : ℕ) (n : ℤ) (d : ℕ) → 0 < d → unsigned_abs n ≤ 1000000000000 → quotient F (whole F n) (whole F (pos d)) ≡ Ok (ratio F d n)
ratio_is F n d d_some small =
    let unit : 0 < 2 ^ F = unit-positive F in
    let both : 0 < d * 2 ^ F = mul-le 1 1 d (2 ^ F) d_some unit in
    let zero_out : holds_zero (whole F (pos d)) ≡ false = grind (arith, ints) in
    let low : least_at (λ a b. floor_of (a *ℤ pos (one F)) b) (whole F n) (whole F (pos d)) ≡ floor_of (n *ℤ pos (one F)) (pos d) =
    least_same (floor_of ((n *ℤ pos (one F)) *ℤ pos (one F)) (pos (d * one F))) ∙ floor_common (n *ℤ pos (one F)) d (one F) d_some unit in
    let high : greatest_at (λ a b. ceil_of (a *ℤ pos (one F)) b) (whole F n) (whole F (pos d)) ≡ ceil_of (n *ℤ pos (one F)) (pos d) =
    greatest_same (ceil_of ((n *ℤ pos (one F)) *ℤ pos (one F)) (pos (d * one F))) ∙ ceil_common (n *ℤ pos (one F)) d (one F) d_some unit in
    let within = ratio_within F n d d_some small in
    let wide = power_below (40 + F) (50 + F) (omega arith) in
    let make : ℤ → ℤ → Interval = λ l h. record { lo = l; hi = h } in
    sym (quotient-bounded F (whole F n) (whole F (pos d)) zero_out)
    ∙ ap (λ l. bounded 50 F (make l (greatest_at (λ a b. ceil_of (a *ℤ pos (one F)) b) (whole F n) (whole F (pos d))))) low
    ∙ ap (λ h. bounded 50 F (make (floor_of (n *ℤ pos (one F)) (pos d)) h)) high
    ∙ bounded-ok 50 F (ratio F d n) (omega (arith, within.0, wide)) (omega (arith, within.1, wide))
