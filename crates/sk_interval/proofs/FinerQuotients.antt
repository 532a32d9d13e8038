-- Quotients on a finer grid.
use Rattle.std.proofs.Common.{◌≡◌, ◌≢◌, ◌⊎◌, inl, inr, ℕ, ◌+◌, ◌*◌, ◌^◌, ℤ, pos, negsuc, ◌*ℤ◌, ◌≤ℤ◌, ◌<ℤ◌, false, arith}
use Rattle.std.proofs.lemmas.Int.{ints, by_lt_z}
use Rattle.sk_interval.specs.Interval.{Interval, one}
use Rattle.sk_interval.specs.Rounding.{floor_of, ceil_of}
use Rattle.sk_interval.specs.Around.{IsAtMost, IsAtLeast}
use Rattle.sk_interval.specs.Operations.{holds_zero, quotient, least_at, greatest_at}
use Rattle.sk_interval.specs.Nesting.{IsInside, Refines}
use Rattle.sk_interval.proofs.QuotientLemmas.{scaled, at_most-floor, at_least-ceil, under_floor, over_ceil}
use Rattle.sk_interval.proofs.ScaleLemmas.{product-scales, below_product, above_product}
use Rattle.sk_interval.proofs.CornerLemmas.{below_least, least_below, above_greatest, greatest_above}
use Rattle.sk_interval.proofs.RatioLemmas.{least_below_greatest_ratio, quotient-flat, quotient-bounded, zero_cases}
use Rattle.sk_interval.proofs.FinerSums.{bounded-Refines, unit_sum, ordered_coarse, positive_scaled, negative_scaled}
use Rattle.sk_interval.proofs.FinerProducts.{rescaled, ends_inside}
use lib.Signed.{≤ℤ_refl}
use lib.IntN.{*ℤ_comm}

ratio_above : (z p q r a b : ℤ) (D K : ℕ) → (z *ℤ q) ≤ℤ (p *ℤ pos D) → (z *ℤ r) ≤ℤ (p *ℤ pos D) → (p *ℤ pos K) ≤ℤ a → (q *ℤ pos K) ≤ℤ b → b ≤ℤ (r *ℤ pos K)
    → ((z *ℤ pos K) *ℤ b) ≤ℤ (a *ℤ pos (D * K))
ratio_above z p q r a b D K low high from below above =
    let t : ℤ = a *ℤ pos (D * K) in
    let scale = scaled (p *ℤ pos K) a (D * K) from in
    let first = rw (← product-scales z q K K, ← rescaled p D K) at (scaled (z *ℤ q) (p *ℤ pos D) (K * K) low) in
    let second = rw (← product-scales z r K K, ← rescaled p D K) at (scaled (z *ℤ r) (p *ℤ pos D) (K * K) high) in
    rw (*ℤ_comm (z *ℤ pos K) b) (above_product t (q *ℤ pos K) (r *ℤ pos K) b (z *ℤ pos K) below above
    (rw (*ℤ_comm (q *ℤ pos K) (z *ℤ pos K)) (omega (arith, ints))) (rw (*ℤ_comm (r *ℤ pos K) (z *ℤ pos K)) (omega (arith, ints))))

ratio_below : (z p q r a b : ℤ) (D K : ℕ) → (p *ℤ pos D) ≤ℤ (z *ℤ q) → (p *ℤ pos D) ≤ℤ (z *ℤ r) → a ≤ℤ (p *ℤ pos K) → (q *ℤ pos K) ≤ℤ b → b ≤ℤ (r *ℤ pos K)
    → (a *ℤ pos (D * K)) ≤ℤ ((z *ℤ pos K) *ℤ b)
ratio_below z p q r a b D K low high to below above =
    let t : ℤ = a *ℤ pos (D * K) in
    let scale = scaled a (p *ℤ pos K) (D * K) to in
    let first = rw (← product-scales z q K K, ← rescaled p D K) at (scaled (p *ℤ pos D) (z *ℤ q) (K * K) low) in
    let second = rw (← product-scales z r K K, ← rescaled p D K) at (scaled (p *ℤ pos D) (z *ℤ r) (K * K) high) in
    rw (*ℤ_comm (z *ℤ pos K) b) (below_product t (q *ℤ pos K) (r *ℤ pos K) b (z *ℤ pos K) below above
    (rw (*ℤ_comm (q *ℤ pos K) (z *ℤ pos K)) (omega (arith, ints))) (rw (*ℤ_comm (r *ℤ pos K) (z *ℤ pos K)) (omega (arith, ints))))

-- comparisons with a fraction, by the sign of its divisor
above_zero : (z n d : ℤ) → pos 0 <ℤ d → IsAtMost z n d → (z *ℤ d) ≤ℤ n
above_zero z n (pos d) h k = k
above_zero z n (negsuc d) h k = absurd (omega (arith, ints))

at_most_above : (z n d : ℤ) → pos 0 <ℤ d → (z *ℤ d) ≤ℤ n → IsAtMost z n d
at_most_above z n (pos d) h k = k
at_most_above z n (negsuc d) h k = absurd (omega (arith, ints))

below_zero : (z n d : ℤ) → d <ℤ pos 0 → IsAtMost z n d → n ≤ℤ (z *ℤ d)
below_zero z n (pos d) h k = absurd (omega (arith, ints))
below_zero z n (negsuc d) h k = k

at_most_below : (z n d : ℤ) → d <ℤ pos 0 → n ≤ℤ (z *ℤ d) → IsAtMost z n d
at_most_below z n (pos d) h k = absurd (omega (arith, ints))
at_most_below z n (negsuc d) h k = k

ceil_above_zero : (z n d : ℤ) → pos 0 <ℤ d → IsAtLeast z n d → n ≤ℤ (z *ℤ d)
ceil_above_zero z n (pos d) h k = k
ceil_above_zero z n (negsuc d) h k = absurd (omega (arith, ints))

at_least_above : (z n d : ℤ) → pos 0 <ℤ d → n ≤ℤ (z *ℤ d) → IsAtLeast z n d
at_least_above z n (pos d) h k = k
at_least_above z n (negsuc d) h k = absurd (omega (arith, ints))

ceil_below_zero : (z n d : ℤ) → d <ℤ pos 0 → IsAtLeast z n d → (z *ℤ d) ≤ℤ n
ceil_below_zero z n (pos d) h k = absurd (omega (arith, ints))
ceil_below_zero z n (negsuc d) h k = k

at_least_below : (z n d : ℤ) → d <ℤ pos 0 → (z *ℤ d) ≤ℤ n → IsAtLeast z n d
at_least_below z n (pos d) h k = absurd (omega (arith, ints))
at_least_below z n (negsuc d) h k = k

positive-nonzero : (d : ℤ) → pos 0 <ℤ d → d ≢ pos 0
positive-nonzero d h e = omega (arith, ints, e)

negative-nonzero : (d : ℤ) → d <ℤ pos 0 → d ≢ pos 0
negative-nonzero d h e = omega (arith, ints, e)

-- one floor and one ceiling on the finer grid, for a divisor above 0
floor_over_positive : (F k : ℕ) (z p q r a b : ℤ) → pos 0 <ℤ q → pos 0 <ℤ r → pos 0 <ℤ b
    → z ≤ℤ floor_of (p *ℤ pos (one F)) q → z ≤ℤ floor_of (p *ℤ pos (one F)) r
    → (p *ℤ pos (2 ^ k)) ≤ℤ a → (q *ℤ pos (2 ^ k)) ≤ℤ b → b ≤ℤ (r *ℤ pos (2 ^ k))
    → (z *ℤ pos (2 ^ k)) ≤ℤ floor_of (a *ℤ pos (one (F + k))) b
floor_over_positive F k z p q r a b q_up r_up b_up first second from below above =
    let low = above_zero z (p *ℤ pos (one F)) q q_up (under_floor _ _ q (positive-nonzero q q_up) first) in
    let high = above_zero z (p *ℤ pos (one F)) r r_up (under_floor _ _ r (positive-nonzero r r_up) second) in
    at_most-floor _ _ b (positive-nonzero b b_up) (at_most_above _ _ b b_up
    (rw (unit_sum F k) (ratio_above z p q r a b (one F) (2 ^ k) low high from below above)))

ceil_over_positive : (F k : ℕ) (z p q r a b : ℤ) → pos 0 <ℤ q → pos 0 <ℤ r → pos 0 <ℤ b
    → ceil_of (p *ℤ pos (one F)) q ≤ℤ z → ceil_of (p *ℤ pos (one F)) r ≤ℤ z
    → a ≤ℤ (p *ℤ pos (2 ^ k)) → (q *ℤ pos (2 ^ k)) ≤ℤ b → b ≤ℤ (r *ℤ pos (2 ^ k))
    → ceil_of (a *ℤ pos (one (F + k))) b ≤ℤ (z *ℤ pos (2 ^ k))
ceil_over_positive F k z p q r a b q_up r_up b_up first second to below above =
    let low = ceil_above_zero z (p *ℤ pos (one F)) q q_up (over_ceil _ _ q (positive-nonzero q q_up) first) in
    let high = ceil_above_zero z (p *ℤ pos (one F)) r r_up (over_ceil _ _ r (positive-nonzero r r_up) second) in
    at_least-ceil _ _ b (positive-nonzero b b_up) (at_least_above _ _ b b_up
    (rw (unit_sum F k) (ratio_below z p q r a b (one F) (2 ^ k) low high to below above)))

-- and for one below 0
floor_over_negative : (F k : ℕ) (z p q r a b : ℤ) → q <ℤ pos 0 → r <ℤ pos 0 → b <ℤ pos 0
    → z ≤ℤ floor_of (p *ℤ pos (one F)) q → z ≤ℤ floor_of (p *ℤ pos (one F)) r
    → a ≤ℤ (p *ℤ pos (2 ^ k)) → (q *ℤ pos (2 ^ k)) ≤ℤ b → b ≤ℤ (r *ℤ pos (2 ^ k))
    → (z *ℤ pos (2 ^ k)) ≤ℤ floor_of (a *ℤ pos (one (F + k))) b
floor_over_negative F k z p q r a b q_down r_down b_down first second to below above =
    let low = below_zero z (p *ℤ pos (one F)) q q_down (under_floor _ _ q (negative-nonzero q q_down) first) in
    let high = below_zero z (p *ℤ pos (one F)) r r_down (under_floor _ _ r (negative-nonzero r r_down) second) in
    at_most-floor _ _ b (negative-nonzero b b_down) (at_most_below _ _ b b_down
    (rw (unit_sum F k) (ratio_below z p q r a b (one F) (2 ^ k) low high to below above)))

ceil_over_negative : (F k : ℕ) (z p q r a b : ℤ) → q <ℤ pos 0 → r <ℤ pos 0 → b <ℤ pos 0
    → ceil_of (p *ℤ pos (one F)) q ≤ℤ z → ceil_of (p *ℤ pos (one F)) r ≤ℤ z
    → (p *ℤ pos (2 ^ k)) ≤ℤ a → (q *ℤ pos (2 ^ k)) ≤ℤ b → b ≤ℤ (r *ℤ pos (2 ^ k))
    → ceil_of (a *ℤ pos (one (F + k))) b ≤ℤ (z *ℤ pos (2 ^ k))
ceil_over_negative F k z p q r a b q_down r_down b_down first second from below above =
    let low = ceil_below_zero z (p *ℤ pos (one F)) q q_down (over_ceil _ _ q (negative-nonzero q q_down) first) in
    let high = ceil_below_zero z (p *ℤ pos (one F)) r r_down (over_ceil _ _ r (negative-nonzero r r_down) second) in
    at_least-ceil _ _ b (negative-nonzero b b_down) (at_least_below _ _ b b_down
    (rw (unit_sum F k) (ratio_above z p q r a b (one F) (2 ^ k) low high from below above)))

sign_cases : (x : Interval) → x.lo ≤ℤ x.hi → holds_zero x ≡ false → ((pos 0 <ℤ x.lo) × (pos 0 <ℤ x.hi)) ⊎ ((x.lo <ℤ pos 0) × (x.hi <ℤ pos 0))
sign_cases x ordered zero_out = by_lt_z (pos 0) x.lo
    (λ up. inl (up, omega (arith, ints)))
    (λ low. by_lt_z x.hi (pos 0) (λ down. inr (omega (arith, ints), down)) (λ high. absurd (grind (arith, ints))))

zero_out_above : (x : Interval) → pos 0 <ℤ x.lo → holds_zero x ≡ false
zero_out_above x h = grind (arith, ints)

zero_out_below : (x : Interval) → x.hi <ℤ pos 0 → holds_zero x ≡ false
zero_out_below x h = grind (arith, ints)

abbrev quotients_of : ℕ → Interval → Interval → Interval
quotients_of F x y = record { lo = least_at (λ a b. floor_of (a *ℤ pos (one F)) b) x y; hi = greatest_at (λ a b. ceil_of (a *ℤ pos (one F)) b) x y }

quotients_inside_positive : (F k : ℕ) (x y v w : Interval) → IsInside k x v → IsInside k y w → pos 0 <ℤ w.lo → pos 0 <ℤ w.hi → pos 0 <ℤ y.lo → pos 0 <ℤ y.hi → IsInside k (quotients_of (F + k) x y) (quotients_of F v w)
quotients_inside_positive F k x y v w p q w_lo w_hi y_lo y_hi =
    let fl : ℤ = least_at (λ a b. floor_of (a *ℤ pos (one F)) b) v w in
    let ce : ℤ = greatest_at (λ a b. ceil_of (a *ℤ pos (one F)) b) v w in
    let lows = least_below fl (floor_of (v.lo *ℤ pos (one F)) w.lo) (floor_of (v.lo *ℤ pos (one F)) w.hi) (floor_of (v.hi *ℤ pos (one F)) w.lo) (floor_of (v.hi *ℤ pos (one F)) w.hi) (≤ℤ_refl fl) in
    let highs = greatest_above ce (ceil_of (v.lo *ℤ pos (one F)) w.lo) (ceil_of (v.lo *ℤ pos (one F)) w.hi) (ceil_of (v.hi *ℤ pos (one F)) w.lo) (ceil_of (v.hi *ℤ pos (one F)) w.hi) (≤ℤ_refl ce) in
    let xs = ends_inside k x v p in
    let ys = ends_inside k y w q in
    record {
      from = below_least _ (floor_of (x.lo *ℤ pos (one (F + k))) y.lo) (floor_of (x.lo *ℤ pos (one (F + k))) y.hi) (floor_of (x.hi *ℤ pos (one (F + k))) y.lo) (floor_of (x.hi *ℤ pos (one (F + k))) y.hi)
          (floor_over_positive F k fl v.lo w.lo w.hi x.lo y.lo w_lo w_hi y_lo lows.0 lows.1 p.from q.from ys.0)
          (floor_over_positive F k fl v.lo w.lo w.hi x.lo y.hi w_lo w_hi y_hi lows.0 lows.1 p.from ys.1 q.to)
          (floor_over_positive F k fl v.lo w.lo w.hi x.hi y.lo w_lo w_hi y_lo lows.0 lows.1 xs.1 q.from ys.0)
          (floor_over_positive F k fl v.lo w.lo w.hi x.hi y.hi w_lo w_hi y_hi lows.0 lows.1 xs.1 ys.1 q.to);
      ordered = least_below_greatest_ratio (x.lo *ℤ pos (one (F + k))) (x.hi *ℤ pos (one (F + k))) y.lo y.hi (positive-nonzero y.lo y_lo);
      to = above_greatest _ (ceil_of (x.lo *ℤ pos (one (F + k))) y.lo) (ceil_of (x.lo *ℤ pos (one (F + k))) y.hi) (ceil_of (x.hi *ℤ pos (one (F + k))) y.lo) (ceil_of (x.hi *ℤ pos (one (F + k))) y.hi)
          (ceil_over_positive F k ce v.hi w.lo w.hi x.lo y.lo w_lo w_hi y_lo highs.2 highs.3 xs.0 q.from ys.0)
          (ceil_over_positive F k ce v.hi w.lo w.hi x.lo y.hi w_lo w_hi y_hi highs.2 highs.3 xs.0 ys.1 q.to)
          (ceil_over_positive F k ce v.hi w.lo w.hi x.hi y.lo w_lo w_hi y_lo highs.2 highs.3 p.to q.from ys.0)
          (ceil_over_positive F k ce v.hi w.lo w.hi x.hi y.hi w_lo w_hi y_hi highs.2 highs.3 p.to ys.1 q.to);
    }

quotients_inside_negative : (F k : ℕ) (x y v w : Interval) → IsInside k x v → IsInside k y w → w.lo <ℤ pos 0 → w.hi <ℤ pos 0 → y.lo <ℤ pos 0 → y.hi <ℤ pos 0 → IsInside k (quotients_of (F + k) x y) (quotients_of F v w)
quotients_inside_negative F k x y v w p q w_lo w_hi y_lo y_hi =
    let fl : ℤ = least_at (λ a b. floor_of (a *ℤ pos (one F)) b) v w in
    let ce : ℤ = greatest_at (λ a b. ceil_of (a *ℤ pos (one F)) b) v w in
    let lows = least_below fl (floor_of (v.lo *ℤ pos (one F)) w.lo) (floor_of (v.lo *ℤ pos (one F)) w.hi) (floor_of (v.hi *ℤ pos (one F)) w.lo) (floor_of (v.hi *ℤ pos (one F)) w.hi) (≤ℤ_refl fl) in
    let highs = greatest_above ce (ceil_of (v.lo *ℤ pos (one F)) w.lo) (ceil_of (v.lo *ℤ pos (one F)) w.hi) (ceil_of (v.hi *ℤ pos (one F)) w.lo) (ceil_of (v.hi *ℤ pos (one F)) w.hi) (≤ℤ_refl ce) in
    let xs = ends_inside k x v p in
    let ys = ends_inside k y w q in
    record {
      from = below_least _ (floor_of (x.lo *ℤ pos (one (F + k))) y.lo) (floor_of (x.lo *ℤ pos (one (F + k))) y.hi) (floor_of (x.hi *ℤ pos (one (F + k))) y.lo) (floor_of (x.hi *ℤ pos (one (F + k))) y.hi)
          (floor_over_negative F k fl v.hi w.lo w.hi x.lo y.lo w_lo w_hi y_lo lows.2 lows.3 xs.0 q.from ys.0)
          (floor_over_negative F k fl v.hi w.lo w.hi x.lo y.hi w_lo w_hi y_hi lows.2 lows.3 xs.0 ys.1 q.to)
          (floor_over_negative F k fl v.hi w.lo w.hi x.hi y.lo w_lo w_hi y_lo lows.2 lows.3 p.to q.from ys.0)
          (floor_over_negative F k fl v.hi w.lo w.hi x.hi y.hi w_lo w_hi y_hi lows.2 lows.3 p.to ys.1 q.to);
      ordered = least_below_greatest_ratio (x.lo *ℤ pos (one (F + k))) (x.hi *ℤ pos (one (F + k))) y.lo y.hi (negative-nonzero y.lo y_lo);
      to = above_greatest _ (ceil_of (x.lo *ℤ pos (one (F + k))) y.lo) (ceil_of (x.lo *ℤ pos (one (F + k))) y.hi) (ceil_of (x.hi *ℤ pos (one (F + k))) y.lo) (ceil_of (x.hi *ℤ pos (one (F + k))) y.hi)
          (ceil_over_negative F k ce v.lo w.lo w.hi x.lo y.lo w_lo w_hi y_lo highs.0 highs.1 p.from q.from ys.0)
          (ceil_over_negative F k ce v.lo w.lo w.hi x.lo y.hi w_lo w_hi y_hi highs.0 highs.1 p.from ys.1 q.to)
          (ceil_over_negative F k ce v.lo w.lo w.hi x.hi y.lo w_lo w_hi y_lo highs.0 highs.1 xs.1 q.from ys.0)
          (ceil_over_negative F k ce v.lo w.lo w.hi x.hi y.hi w_lo w_hi y_hi highs.0 highs.1 xs.1 ys.1 q.to);
    }

pub quotient-Refines : (F k : ℕ) (x y v w : Interval) → IsInside k x v → IsInside k y w → Refines k (quotient (F + k) x y) (quotient F v w)
quotient-Refines F k x y v w p q =
    elim (zero_cases w) [
      | inl zero_in ↦ rw (quotient-flat F v w zero_in) tt
      | inr zero_out ↦ elim (sign_cases w (ordered_coarse k y w q) zero_out) [
        | inl up ↦
            (let low = positive_scaled w.lo y.lo k up.0 q.from in
            let high : pos 0 <ℤ y.hi = omega (arith, ints, q.ordered) in
            rw (← quotient-bounded F v w zero_out, ← quotient-bounded (F + k) x y (zero_out_above y low))
            (bounded-Refines 50 F k (quotients_of (F + k) x y) (quotients_of F v w) (quotients_inside_positive F k x y v w p q up.0 up.1 low high)))
        | inr down ↦
            (let high = negative_scaled w.hi y.hi k down.1 q.to in
            let low : y.lo <ℤ pos 0 = omega (arith, ints, q.ordered) in
            rw (← quotient-bounded F v w zero_out, ← quotient-bounded (F + k) x y (zero_out_below y high))
            (bounded-Refines 50 F k (quotients_of (F + k) x y) (quotients_of F v w) (quotients_inside_negative F k x y v w p q down.0 down.1 low high)))
      ]
    ]
