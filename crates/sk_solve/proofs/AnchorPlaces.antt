-- The place of a frame that is taken to the drawing is printed exactly as it is drawn.
use Rattle.std.proofs.Common.{◌≡◌, ℕ, ◌+◌, ◌-◌, ◌*◌, ◌^◌, ◌<◌, ◌≤◌, ℤ, pos, neg_ℤ, ◌+ℤ◌, ◌-ℤ◌, ◌*ℤ◌, ◌≤ℤ◌, unsigned_abs, Ok, refl, sym, ap, ◌∙◌, arith}
use Rattle.std.specs.Int.{int_min, int_max}
use Rattle.std.proofs.lemmas.Int.{ints, by_lt_z, unsigned_abs-mul}
use Rattle.std.proofs.lemmas.Nat.{mul-le, pow-add}
use native.Mathlib.Nat.{le_refl}
use Rattle.std.specs.Int.Signed.{≤ℤ_refl}
use Rattle.sk_base.specs.Nearest.{nearest}
use Rattle.sk_base.specs.declared.At.{At}
use Rattle.sk_base.proofs.Quotients.{nearest_is_nearest}
use Rattle.sk_interval.specs.Interval.{Interval, one}
use Rattle.sk_interval.specs.Rounding.{floor_of, ceil_of}
use Rattle.sk_interval.specs.Operations.{of_micrometres, sum, difference, product, length_of, middle, least_at, greatest_at, times}
use Rattle.sk_interval.proofs.AroundLemmas.{pos-nonzero, quotients_bounded, floor_below_ceil, size_of_bounds}
use Rattle.sk_interval.proofs.CornerLemmas.{below_least, least_below, above_greatest, greatest_above, greatest_within}
use Rattle.sk_interval.proofs.PowerLemmas.{power_below, unit-positive}
use Rattle.sk_interval.proofs.ProductLemmas.{bounded-ok, product-quotients}
use Rattle.sk_interval.proofs.QuotientLemmas.{scaled, floor-at_most, at_most-floor, ceil-at_least, at_least-ceil}
use Rattle.sk_interval.proofs.ScaleLemmas.{scale-scale, scale-sum, product-neg}
use Rattle.sk_base.specs.Bounds.{IsWithin}
use Rattle.sk_base.proofs.Magnitudes.{≤ℤ_antisymm}
use Rattle.sk_steps.specs.declared.BoxOf.{BoxOf}
use Rattle.sk_steps.specs.declared.BoxOf.TheVariants.{Point}
use Rattle.sk_steps.specs.declared.Motion.{Motion}
use Rattle.sk_steps.specs.Carried.{carried, carried_point}
use Rattle.sk_place.specs.declared.PlaceBy.{PlaceBy}
use Rattle.sk_place.specs.declared.PlaceBy.TheVariants.{Boxes, Points}
use Rattle.sk_place.specs.Rounding.{midpoint, rounded_box}
use Rattle.sk_place.specs.Settling.{settled_box}
use Rattle.sk_place.proofs.Results.{ok_inside}
use Rattle.sk_frame.specs.declared.Frame.{Frame}
use Rattle.sk_frame.specs.Frames.{IsSoundFrame}
use Rattle.sk_frame.specs.FrameMotions.{ratio, parts_motion, frame_motion}
use Rattle.sk_frame.proofs.UnitTurns.{unit_of}
use Rattle.sk_frame.proofs.FrameTurns.{with_turn, turn_of_frame, motion_is}

-- the ceiling of a fraction is its floor or one more
ceil_near : (n : ℤ) (d : ℕ) → 0 < d → ceil_of n (pos d) ≤ℤ (floor_of n (pos d) +ℤ pos 1)
ceil_near n d some =
    let z : ℤ = floor_of n (pos d) in
    by_lt_z ((z +ℤ pos 1) *ℤ pos d) n
    (λ lt. absurd (let more : (z +ℤ pos 1) ≤ℤ z = at_most-floor (z +ℤ pos 1) n (pos d) (pos-nonzero d some) (omega (arith, ints, lt)) in omega (arith, ints, more)))
    (λ le. at_least-ceil (z +ℤ pos 1) n (pos d) (pos-nonzero d some) le)

-- an interval about 0, of few units on either side
pub record IsAbout (few : ℕ) (x : Interval) : Type 0 where
  pub even : x.lo ≡ neg_ℤ x.hi
  pub small : unsigned_abs x.hi ≤ few

-- a length less itself
pub record HasNothing (F : ℕ) (x : Interval) : Type 0 where
  pub left : Interval
  pub is : difference F x x ≡ Ok left
  pub about : IsAbout 1 left
  pub ordered : pos 0 ≤ℤ left.hi

pub nothing_left : (F : ℕ) (v : ℤ) → HasNothing F (of_micrometres F v)
nothing_left F v =
    let n : ℤ = v *ℤ pos (one F) in
    let x : Interval = of_micrometres F v in
    let order : x.lo ≤ℤ x.hi = floor_below_ceil n n 1000 (omega arith) (≤ℤ_refl _) in
    let near : x.hi ≤ℤ (x.lo +ℤ pos 1) = ceil_near n 1000 (omega arith) in
    let left : Interval = record { lo = x.lo -ℤ x.hi; hi = x.hi -ℤ x.lo } in
    let wide : 1 ≤ 2 ^ (50 + F) = power_below 0 (50 + F) (omega arith) in
    record {
      left = left;
      is = bounded-ok 50 F left (omega (arith, ints, order, near, wide)) (omega (arith, ints, order, near, wide));
      about = record { even = omega (arith, ints); small = omega (arith, ints, order, near) };
      ordered = omega (arith, ints, order);
    }

-- ---- a product with an interval about 0 is one

pub record HasEvenProduct (F : ℕ) (c d : Interval) : Type 0 where
  pub product_of : Interval
  pub is : product F c d ≡ Ok product_of
  pub about : IsAbout 2 product_of

pub floor_turned : (n : ℤ) (d : ℤ) → floor_of (neg_ℤ n) d ≡ neg_ℤ (ceil_of n d)
unfolding ceil_of
floor_turned n d = omega (arith, ints)

-- the least of four of which two are the others turned over
least_turned : (a b c d : ℤ) → a ≡ neg_ℤ b → c ≡ neg_ℤ d → int_min (int_min a b) (int_min c d) ≡ neg_ℤ (int_max (int_max a b) (int_max c d))
least_turned a b c d a_is c_is =
    let L : ℤ = int_min (int_min a b) (int_min c d) in
    let G : ℤ = int_max (int_max a b) (int_max c d) in
    let low = least_below L a b c d (≤ℤ_refl L) in
    let high = greatest_above G a b c d (≤ℤ_refl G) in
    let up : G ≤ℤ neg_ℤ L = above_greatest (neg_ℤ L) a b c d (omega (arith, ints, a_is, low.1)) (omega (arith, ints, a_is, low.0)) (omega (arith, ints, c_is, low.3)) (omega (arith, ints, c_is, low.2)) in
    let down : neg_ℤ G ≤ℤ L = below_least (neg_ℤ G) a b c d (omega (arith, ints, a_is, high.1)) (omega (arith, ints, a_is, high.0)) (omega (arith, ints, c_is, high.3)) (omega (arith, ints, c_is, high.2)) in
    ≤ℤ_antisymm L (neg_ℤ G) (omega (arith, ints, up)) down

pub even_product : (F : ℕ) (c d : Interval) → unsigned_abs c.lo ≤ 2 * 2 ^ F → unsigned_abs c.hi ≤ 2 * 2 ^ F → IsAbout 1 d → HasEvenProduct F c d
even_product F c d lo_few hi_few about =
    let few : ℕ = 2 * 2 ^ F in
    let turned : (z : ℤ) → z *ℤ d.lo ≡ neg_ℤ (z *ℤ d.hi) = λ z. ap (λ (w : ℤ). z *ℤ w) about.even ∙ product-neg z d.hi in
    let u : ℤ = c.lo *ℤ d.hi in
    let v : ℤ = c.hi *ℤ d.hi in
    let u_few : unsigned_abs u ≤ few = rw unsigned_abs-mul (omega (arith, mul-le (unsigned_abs c.lo) (unsigned_abs d.hi) few 1 lo_few about.small)) in
    let v_few : unsigned_abs v ≤ few = rw unsigned_abs-mul (omega (arith, mul-le (unsigned_abs c.hi) (unsigned_abs d.hi) few 1 hi_few about.small)) in
    let a_few : unsigned_abs (c.lo *ℤ d.lo) ≤ few = rw turned (omega (arith, ints, u_few)) in
    let b_few : unsigned_abs (c.hi *ℤ d.lo) ≤ few = rw turned (omega (arith, ints, v_few)) in
    let G : ℤ = greatest_at times c d in
    let G_few : unsigned_abs G ≤ few = greatest_within (c.lo *ℤ d.lo) u (c.hi *ℤ d.lo) v few a_few u_few b_few v_few in
    let least : least_at times c d ≡ neg_ℤ G = least_turned (c.lo *ℤ d.lo) u (c.hi *ℤ d.lo) v (turned c.lo) (turned c.hi) in
    let hi : ℤ = ceil_of G (pos (one F)) in
    let hi_few : unsigned_abs hi ≤ 2 = (quotients_bounded G G (2 ^ F) 2 (unit-positive F) (≤ℤ_refl G) G_few G_few).hi_within in
    let low : floor_of (least_at times c d) (pos (one F)) ≡ neg_ℤ hi = ap (λ z. floor_of z (pos (one F))) least ∙ floor_turned G (pos (one F)) in
    let made : Interval = record { lo = floor_of (least_at times c d) (pos (one F)); hi = hi } in
    let wide : 2 ≤ 2 ^ (50 + F) = (let two = power_below 1 (50 + F) (omega arith) in omega (arith, two)) in
    record {
      product_of = made;
      is = sym (product-quotients F c d) ∙ bounded-ok 50 F made (rw low (omega (arith, ints, hi_few, wide))) (omega (arith, hi_few, wide));
      about = record { even = low; small = hi_few };
    }

-- ---- the carried point

pub record IsShifted (to there : Interval) : Type 0 where
  pub middle_same : there.lo +ℤ there.hi ≡ to.lo +ℤ to.hi

carried_evaluated : {G : Type 0} (F : ℕ) (m : Motion G) (x y dx dy p1 t1 q1 X p2 t2 q2 Y : Interval)
    → difference F x m.fx ≡ Ok dx → difference F y m.fy ≡ Ok dy → product F m.cos dx ≡ Ok p1 → sum F m.tx p1 ≡ Ok t1 → product F m.sin dy ≡ Ok q1 → difference F t1 q1 ≡ Ok X → length_of F X ≡ Ok X
    → product F m.sin dx ≡ Ok p2 → sum F m.ty p2 ≡ Ok t2 → product F m.cos dy ≡ Ok q2 → sum F t2 q2 ≡ Ok Y → length_of F Y ≡ Ok Y
    → carried {G = G} F m (Point x y) ≡ Ok (Point X Y)
unfolding carried_point
carried_evaluated F m x y dx dy p1 t1 q1 X p2 t2 q2 Y dx_is dy_is p1_is t1_is q1_is X_is X_fits p2_is t2_is q2_is Y_is Y_fits =
    rw (dx_is, p1_is, t1_is, dy_is, q1_is, X_is, X_fits, p2_is, t2_is, q2_is, Y_is, Y_fits) refl

pub record IsCarriedTo {G : Type 0} (F : ℕ) (m : Motion G) (x y : Interval) : Type 0 where
  pub X : Interval
  pub Y : Interval
  pub is : carried {G = G} F m (Point x y) ≡ Ok (Point X Y)
  pub x_shifted : IsShifted m.tx X
  pub y_shifted : IsShifted m.ty Y

near_length : (F : ℕ) → 2 ^ 21 * 2 ^ F ≤ 2 ^ (40 + F)
near_length F = omega (arith, pow-add 2 40 F)

pub anchor_carried : {G : Type 0} (F : ℕ) (m : Motion G) (v w : ℤ) → m.fx ≡ of_micrometres F v → m.fy ≡ of_micrometres F w
    → unsigned_abs m.cos.lo ≤ 2 * 2 ^ F → unsigned_abs m.cos.hi ≤ 2 * 2 ^ F → unsigned_abs m.sin.lo ≤ 2 * 2 ^ F → unsigned_abs m.sin.hi ≤ 2 * 2 ^ F
    → unsigned_abs m.tx.lo ≤ 2 ^ 20 * 2 ^ F → unsigned_abs m.tx.hi ≤ 2 ^ 20 * 2 ^ F → unsigned_abs m.ty.lo ≤ 2 ^ 20 * 2 ^ F → unsigned_abs m.ty.hi ≤ 2 ^ 20 * 2 ^ F
    → IsCarriedTo {G = G} F m (of_micrometres F v) (of_micrometres F w)
anchor_carried {G} F m v w fx_is fy_is cl ch sl sh txl txh tyl tyh =
    let x : Interval = of_micrometres F v in
    let y : Interval = of_micrometres F w in
    let dx = nothing_left F v in
    let dy = nothing_left F w in
    let p1 = even_product F m.cos dx.left cl ch dx.about in
    let q1 = even_product F m.sin dy.left sl sh dy.about in
    let p2 = even_product F m.sin dx.left sl sh dx.about in
    let q2 = even_product F m.cos dy.left cl ch dy.about in
    let P1 : Interval = p1.product_of in
    let Q1 : Interval = q1.product_of in
    let P2 : Interval = p2.product_of in
    let Q2 : Interval = q2.product_of in
    let t1 : Interval = record { lo = m.tx.lo +ℤ P1.lo; hi = m.tx.hi +ℤ P1.hi } in
    let X : Interval = record { lo = t1.lo -ℤ Q1.hi; hi = t1.hi -ℤ Q1.lo } in
    let t2 : Interval = record { lo = m.ty.lo +ℤ P2.lo; hi = m.ty.hi +ℤ P2.hi } in
    let Y : Interval = record { lo = t2.lo +ℤ Q2.lo; hi = t2.hi +ℤ Q2.hi } in
    let wide : 2 ^ 40 * 2 ^ F ≤ 2 ^ (50 + F) = omega (arith, pow-add 2 50 F) in
    let long : 2 ^ 40 * 2 ^ F ≤ 2 ^ (40 + F) = omega (arith, pow-add 2 40 F) in
    let unit = unit-positive F in
    let facts : (unsigned_abs P1.lo ≤ 2) × (unsigned_abs Q1.lo ≤ 2) × (unsigned_abs P2.lo ≤ 2) × (unsigned_abs Q2.lo ≤ 2) =
    (omega (arith, ints, p1.about.even, p1.about.small), omega (arith, ints, q1.about.even, q1.about.small), omega (arith, ints, p2.about.even, p2.about.small), omega (arith, ints, q2.about.even, q2.about.small)) in
    let t1_lo : unsigned_abs t1.lo ≤ 2 ^ 21 * 2 ^ F = omega (arith, ints, txl, facts.0, unit) in
    let t1_hi : unsigned_abs t1.hi ≤ 2 ^ 21 * 2 ^ F = omega (arith, ints, txh, p1.about.small, unit) in
    let t2_lo : unsigned_abs t2.lo ≤ 2 ^ 21 * 2 ^ F = omega (arith, ints, tyl, facts.2, unit) in
    let t2_hi : unsigned_abs t2.hi ≤ 2 ^ 21 * 2 ^ F = omega (arith, ints, tyh, p2.about.small, unit) in
    let X_lo : unsigned_abs X.lo ≤ 2 ^ 22 * 2 ^ F = omega (arith, ints, t1_lo, q1.about.small, unit) in
    let X_hi : unsigned_abs X.hi ≤ 2 ^ 22 * 2 ^ F = omega (arith, ints, t1_hi, facts.1, unit) in
    let Y_lo : unsigned_abs Y.lo ≤ 2 ^ 22 * 2 ^ F = omega (arith, ints, t2_lo, facts.3, unit) in
    let Y_hi : unsigned_abs Y.hi ≤ 2 ^ 22 * 2 ^ F = omega (arith, ints, t2_hi, q2.about.small, unit) in
    record {
      X = X;
      Y = Y;
      is = carried_evaluated F m x y dx.left dy.left P1 t1 Q1 X P2 t2 Q2 Y (rw fx_is dx.is) (rw fy_is dy.is)
          p1.is (bounded-ok 50 F t1 (omega (arith, t1_lo, wide)) (omega (arith, t1_hi, wide))) q1.is (bounded-ok 50 F X (omega (arith, X_lo, wide)) (omega (arith, X_hi, wide))) (bounded-ok 40 F X (omega (arith, X_lo, long)) (omega (arith, X_hi, long)))
          p2.is (bounded-ok 50 F t2 (omega (arith, t2_lo, wide)) (omega (arith, t2_hi, wide))) q2.is (bounded-ok 50 F Y (omega (arith, Y_lo, wide)) (omega (arith, Y_hi, wide))) (bounded-ok 40 F Y (omega (arith, Y_lo, long)) (omega (arith, Y_hi, long)));
      x_shifted = record { middle_same = omega (arith, ints, p1.about.even, q1.about.even) };
      y_shifted = record { middle_same = omega (arith, ints, p2.about.even, q2.about.even) };
    }

-- ---- what is printed

same_nearest : (r X n : ℤ) (d : ℕ) → 2 * unsigned_abs ((r *ℤ pos d) -ℤ n) ≤ d → 2 * unsigned_abs (n -ℤ (X *ℤ pos d)) < d → r ≡ X
same_nearest r X n d near close =
    by_lt_z r X
    (λ lt. absurd (let step : ((r +ℤ pos 1) *ℤ pos d) ≤ℤ (X *ℤ pos d) = scaled (r +ℤ pos 1) X d (omega (arith, ints, lt)) in
    let sum_is = scale-sum r (pos 1) d in omega (arith, ints, near, close, step, sum_is)))
    (λ le. by_lt_z X r
    (λ lt. absurd (let step : ((X +ℤ pos 1) *ℤ pos d) ≤ℤ (r *ℤ pos d) = scaled (X +ℤ pos 1) r d (omega (arith, ints, lt)) in
    let sum_is = scale-sum X (pos 1) d in omega (arith, ints, near, close, step, sum_is)))
    (λ ge. ≤ℤ_antisymm r X ge le))

-- a sum of ends that is that of a number of nanometres, or one less
pub printed : (F : ℕ) → 21 ≤ F → (X : ℤ) (b : Interval) → (b.lo +ℤ b.hi) ≤ℤ ((ratio F 1000000 X).lo +ℤ (ratio F 1000000 X).hi) → ((ratio F 1000000 X).lo +ℤ (ratio F 1000000 X).hi) ≤ℤ ((b.lo +ℤ b.hi) +ℤ pos 1)
    → midpoint F 1000000 b ≡ X
printed F fine X b below above =
    let top : ℤ = X *ℤ pos (one F) in
    let S : ℤ = b.lo +ℤ b.hi in
    let n : ℤ = S *ℤ pos 1000000 in
    let d : ℕ = 2 * 2 ^ F in
    let unit : 2 ^ 21 ≤ 2 ^ F = power_below 21 F fine in
    let some : 0 < d = omega (arith, unit) in
    let million = pos-nonzero 1000000 (omega arith) in
    let low : (floor_of top (pos 1000000) *ℤ pos 1000000) ≤ℤ top = floor-at_most top (pos 1000000) million in
    let high : top ≤ℤ (ceil_of top (pos 1000000) *ℤ pos 1000000) = ceil-at_least top (pos 1000000) million in
    let order : floor_of top (pos 1000000) ≤ℤ ceil_of top (pos 1000000) = floor_below_ceil top top 1000000 (omega arith) (≤ℤ_refl _) in
    let near : ceil_of top (pos 1000000) ≤ℤ (floor_of top (pos 1000000) +ℤ pos 1) = ceil_near top 1000000 (omega arith) in
    let double : X *ℤ pos d ≡ top *ℤ pos 2 = ap (λ (t : ℕ). X *ℤ pos t) (other_way (2 ^ F)) ∙ sym (scale-scale X (2 ^ F) 2) in
    let close : 2 * unsigned_abs (n -ℤ (X *ℤ pos d)) < d = rw double (omega (arith, ints, below, above, low, high, order, near, unit)) in
    same_nearest (nearest d n) X n d (nearest_is_nearest d some n).near close
  where
    other_way : (t : ℕ) → 2 * t ≡ t * 2
    other_way t = omega arith

shifted_middle : (to there : Interval) → IsShifted to there → ((middle there).lo +ℤ (middle there).hi) ≤ℤ (to.lo +ℤ to.hi) × (to.lo +ℤ to.hi) ≤ℤ (((middle there).lo +ℤ (middle there).hi) +ℤ pos 1)
shifted_middle to there shifted =
    let n : ℤ = there.lo +ℤ there.hi in
    let z : ℤ = floor_of n (pos 2) in
    let two = pos-nonzero 2 (omega arith) in
    let below : (z *ℤ pos 2) ≤ℤ n = floor-at_most n (pos 2) two in
    let above : n ≤ℤ ((z *ℤ pos 2) +ℤ pos 1) = by_lt_z ((z *ℤ pos 2) +ℤ pos 1) n
    (λ lt. absurd (let more : (z +ℤ pos 1) ≤ℤ z = at_most-floor (z +ℤ pos 1) n (pos 2) two (omega (arith, ints, lt)) in omega (arith, ints, more)))
    (λ le. le) in
    (omega (arith, ints, below, shifted.middle_same), omega (arith, ints, above, shifted.middle_same))

-- ---- the frame's place

far_within : (F : ℕ) (n : ℤ) → IsWithin 1000000000000 n → (unsigned_abs (ratio F 1000000 n).lo ≤ 2 ^ 20 * 2 ^ F) × (unsigned_abs (ratio F 1000000 n).hi ≤ 2 ^ 20 * 2 ^ F)
far_within F n within =
    let small = size_of_bounds n 1000000000000 within.0 within.1 in
    let top : ℤ = n *ℤ pos (one F) in
    let size : unsigned_abs top ≤ 2 ^ 20 * 2 ^ F * 1000000 = rw unsigned_abs-mul (omega (arith, mul-le (unsigned_abs n) (2 ^ F) 1000000000000 (2 ^ F) small (le_refl _))) in
    let b = quotients_bounded top top 1000000 (2 ^ 20 * 2 ^ F) (omega arith) (≤ℤ_refl _) size size in
    (b.lo_within, b.hi_within)

-- the motion of a frame carries its place there, and so it is printed, by boxes and by points
pub place_printed : {G : Type 0} (by : PlaceBy) (F : ℕ) → 21 ≤ F → (f : Frame) → IsSoundFrame f → (m : Motion G) → frame_motion F f ≡ Ok m
    → (b : BoxOf G) → settled_box by F (carried F m (Point (of_micrometres F f.from.x) (of_micrometres F f.from.y))) ≡ Ok b → rounded_box F b ≡ At.Point f.to.x f.to.y
place_printed {G} by F fine f sound m is b b_is =
    let u : ℕ = 2 ^ (F - 8) in
    let enough : 8 ≤ F = omega (arith, fine) in
    let unit = unit_of F enough in
    let turn = turn_of_frame F enough f sound u unit in
    let parts : Motion G = with_turn (parts_motion F f) turn.cos turn.sin in
    let m_is : m ≡ parts = ok_inside m parts (sym is ∙ motion_is F enough f sound u unit turn) in
    let tx = far_within F f.to.x sound.to.0 in
    let ty = far_within F f.to.y sound.to.1 in
    let there : IsCarriedTo {G = G} F parts (of_micrometres F f.from.x) (of_micrometres F f.from.y) =
    anchor_carried F parts f.from.x f.from.y refl refl turn.cos_lo turn.cos_hi turn.sin_lo turn.sin_hi tx.0 tx.1 ty.0 ty.1 in
    let lies : carried {G = G} F m (Point (of_micrometres F f.from.x) (of_micrometres F f.from.y)) ≡ Ok (Point there.X there.Y) =
    ap (λ (n : Motion G). carried F n (Point (of_micrometres F f.from.x) (of_micrometres F f.from.y))) m_is ∙ there.is in
    by_way by there.X there.Y there.x_shifted there.y_shifted (ap (settled_box by F) (sym lies) ∙ b_is)
  where
    by_way : (by : PlaceBy) (X Y : Interval) → IsShifted (ratio F 1000000 f.to.x) X → IsShifted (ratio F 1000000 f.to.y) Y → settled_box by F (Ok (Point X Y)) ≡ Ok b → rounded_box F b ≡ At.Point f.to.x f.to.y
    by_way Boxes X Y x_shifted y_shifted is =
        let b_is : Point X Y ≡ b = ok_inside (Point X Y) b is in
        ap (rounded_box F) (sym b_is)
        ∙ ap (λ x. At.Point x (midpoint F 1000000 Y)) (printed F fine f.to.x X (omega (arith, ints, x_shifted.middle_same)) (omega (arith, ints, x_shifted.middle_same)))
        ∙ ap (λ y. At.Point f.to.x y) (printed F fine f.to.y Y (omega (arith, ints, y_shifted.middle_same)) (omega (arith, ints, y_shifted.middle_same)))
    by_way Points X Y x_shifted y_shifted is =
        let b_is : Point (middle X) (middle Y) ≡ b = ok_inside (Point (middle X) (middle Y)) b is in
        let x_near = shifted_middle (ratio F 1000000 f.to.x) X x_shifted in
        let y_near = shifted_middle (ratio F 1000000 f.to.y) Y y_shifted in
        ap (rounded_box F) (sym b_is)
        ∙ ap (λ x. At.Point x (midpoint F 1000000 (middle Y))) (printed F fine f.to.x (middle X) x_near.0 x_near.1)
        ∙ ap (λ y. At.Point f.to.x y) (printed F fine f.to.y (middle Y) y_near.0 y_near.1)
