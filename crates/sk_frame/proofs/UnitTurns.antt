-- The motion of a sound frame has no fault.
use Rattle.std.proofs.Common.{◌≡◌, inl, inr, ℕ, ◌+◌, ◌-◌, ◌*◌, ◌^◌, ◌<◌, ◌≤◌, ℤ, pos, ◌+ℤ◌, ◌*ℤ◌, ◌≤ℤ◌, ◌<ℤ◌, max, unsigned_abs, [], ◌∷◌, Ok, false, refl, sym, ap, ◌∙◌, arith}
use Rattle.std.proofs.lemmas.Bool.{cases_lt}
use Rattle.std.proofs.lemmas.Int.{ints, unsigned_abs-mul}
use Rattle.std.proofs.lemmas.Nat.{mul-le, pow-add}
use native.Mathlib.Nat.{le_refl}
use Rattle.std.specs.Int.Signed.{≤ℤ_refl}
use Rattle.sk_base.proofs.Magnitudes.{≤ℤ_antisymm, square_size}
use Rattle.sk_root.specs.Roots.{floor_root, ceil_root}
use Rattle.sk_root.proofs.RootLemmas.{root_below, floor_root-bounds}
use Rattle.sk_interval.specs.Interval.{Interval, one}
use Rattle.sk_interval.specs.Rounding.{floor_of, ceil_of}
use Rattle.sk_interval.specs.Operations.{product, sum, root, quotient, bounded, holds_zero, least_at, greatest_at, times}
use Rattle.sk_interval.proofs.PowerLemmas.{power_below, unit-positive}
use Rattle.sk_interval.proofs.CornerLemmas.{least_within, greatest_within}
use Rattle.sk_interval.proofs.AroundLemmas.{quotients_bounded, ceil_to, floor_below_ceil, pos-nonzero, size_of_bounds}
use Rattle.sk_interval.proofs.ProductLemmas.{bounded-ok, product-quotients}
use Rattle.sk_interval.proofs.QuotientLemmas.{at_most-floor, floor-at_most, at_least-ceil, ceil-at_least, unscaled_by}
use Rattle.sk_interval.proofs.ScaleLemmas.{scale-scale}
use Rattle.sk_interval.proofs.RatioLemmas.{root-real, quotient-bounded}
use Rattle.sk_interval.proofs.SquareLemmas.{floor_root_below_ceil_root}
use Rattle.sk_steps.specs.declared.What.{What}
use Rattle.sk_steps.specs.Quantities.{evaluate}
use Rattle.sk_steps.specs.SettledMotions.{unit_turn}
use Rattle.sk_frame.specs.FrameMotions.{ratio}
use Rattle.sk_frame.proofs.Ratios.{least_same, greatest_same}

-- the grid has so many units to 1 / 256
pub record IsUnit (F u : ℕ) : Type 0 where
  pub is : 2 ^ F ≡ 256 * u
  pub some : 0 < u

pub unit_of : (F : ℕ) → 8 ≤ F → IsUnit F (2 ^ (F - 8))
unit_of F enough = record { is = (let sum : F ≡ 8 + (F - 8) = omega arith in ap (λ (k : ℕ). 2 ^ k) sum ∙ pow-add 2 8 (F - 8)); some = power_below 0 (F - 8) (omega arith) }

-- an interval of one number
abbrev pub exactly : ℤ → Interval
exactly a = record { lo = a; hi = a }

square_small : (F : ℕ) (a : ℤ) → unsigned_abs a ≤ 2 ^ 23 * 2 ^ F → unsigned_abs a * unsigned_abs a ≤ 2 ^ 46 * 2 ^ F * 2 ^ F
square_small F a small = omega (arith, mul-le (unsigned_abs a) (unsigned_abs a) (2 ^ 23 * 2 ^ F) (2 ^ 23 * 2 ^ F) small small)

square_from : (F : ℕ) (a : ℤ) → pos 0 ≤ℤ floor_of (a *ℤ a) (pos (2 ^ F))
square_from F a = at_most-floor (pos 0) (a *ℤ a) (pos (2 ^ F)) (pos-nonzero (2 ^ F) (unit-positive F)) (rw (square_size a) (omega (arith, ints)))

square_to : (F : ℕ) (a : ℤ) → unsigned_abs a ≤ 2 ^ 23 * 2 ^ F → ceil_of (a *ℤ a) (pos (2 ^ F)) ≤ℤ pos (2 ^ 46 * 2 ^ F)
square_to F a small = ceil_to (a *ℤ a) (2 ^ F) (2 ^ 46 * 2 ^ F) (unit-positive F) (rw (square_size a) (square_small F a small))

-- the square of a part of the turn
pub square_is : (F : ℕ) (a : ℤ) → unsigned_abs a ≤ 2 ^ 23 * 2 ^ F → product F (exactly a) (exactly a) ≡ Ok (record { lo = floor_of (a *ℤ a) (pos (2 ^ F)); hi = ceil_of (a *ℤ a) (pos (2 ^ F)) })
square_is F a small =
    let square : Interval = record { lo = floor_of (a *ℤ a) (pos (one F)); hi = ceil_of (a *ℤ a) (pos (one F)) } in
    let make : ℤ → ℤ → Interval = λ l h. record { lo = floor_of l (pos (one F)); hi = ceil_of h (pos (one F)) } in
    let from = square_from F a in
    let to = square_to F a small in
    let order : square.lo ≤ℤ square.hi = floor_below_ceil (a *ℤ a) (a *ℤ a) (2 ^ F) (unit-positive F) (≤ℤ_refl _) in
    let wide : 2 ^ 46 * 2 ^ F ≤ 2 ^ (50 + F) = omega (arith, pow-add 2 50 F) in
    sym (product-quotients F (exactly a) (exactly a))
    ∙ ap (λ l. bounded 50 F (make l (greatest_at times (exactly a) (exactly a)))) (least_same (a *ℤ a))
    ∙ ap (λ h. bounded 50 F (make (a *ℤ a) h)) (greatest_same (a *ℤ a))
    ∙ bounded-ok 50 F square (size_of_bounds square.lo (2 ^ (50 + F)) (omega (arith, ints, from)) (omega (arith, ints, order, to, wide))) (size_of_bounds square.hi (2 ^ (50 + F)) (omega (arith, ints, from, order)) (omega (arith, ints, to, wide)))

pub record HasSquare (F : ℕ) (a : ℤ) : Type 0 where
  pub square : Interval
  pub is : product F (exactly a) (exactly a) ≡ Ok square
  pub lo_from : pos 0 ≤ℤ square.lo
  pub ordered : square.lo ≤ℤ square.hi
  pub hi_to : square.hi ≤ℤ pos (2 ^ 46 * 2 ^ F)
  pub great : 2 ^ 22 * 2 ^ F ≤ unsigned_abs a → pos (2 ^ 44 * 2 ^ F) ≤ℤ square.lo

pub square_of : (F : ℕ) (a : ℤ) → unsigned_abs a ≤ 2 ^ 23 * 2 ^ F → HasSquare F a
square_of F a small = record {
  square = record { lo = floor_of (a *ℤ a) (pos (2 ^ F)); hi = ceil_of (a *ℤ a) (pos (2 ^ F)) };
  is = square_is F a small;
  lo_from = square_from F a;
  ordered = floor_below_ceil (a *ℤ a) (a *ℤ a) (2 ^ F) (unit-positive F) (≤ℤ_refl _);
  hi_to = square_to F a small;
  great = λ great. at_most-floor (pos (2 ^ 44 * 2 ^ F)) (a *ℤ a) (pos (2 ^ F)) (pos-nonzero (2 ^ F) (unit-positive F)) (rw (square_size a) (omega (arith, ints, mul-le (2 ^ 22 * 2 ^ F) (2 ^ 22 * 2 ^ F) (unsigned_abs a) (unsigned_abs a) great great)));
}

-- ---- a part of the turn, on the grid

pub floor_whole : (z : ℤ) (d : ℕ) → 0 < d → floor_of (z *ℤ pos d) (pos d) ≡ z
floor_whole z d some =
    let w : ℤ = floor_of (z *ℤ pos d) (pos d) in
    ≤ℤ_antisymm w z (unscaled_by w z d some (floor-at_most (z *ℤ pos d) (pos d) (pos-nonzero d some))) (at_most-floor z (z *ℤ pos d) (pos d) (pos-nonzero d some) (≤ℤ_refl _))

pub ceil_whole : (z : ℤ) (d : ℕ) → 0 < d → ceil_of (z *ℤ pos d) (pos d) ≡ z
ceil_whole z d some =
    let w : ℤ = ceil_of (z *ℤ pos d) (pos d) in
    ≤ℤ_antisymm w z (at_least-ceil z (z *ℤ pos d) (pos d) (pos-nonzero d some) (≤ℤ_refl _)) (unscaled_by z w d some (ceil-at_least (z *ℤ pos d) (pos d) (pos-nonzero d some)))

pub ratio_exact : (F u : ℕ) → IsUnit F u → (z : ℤ) → ratio F 256 z ≡ exactly (z *ℤ pos u)
ratio_exact F u unit z =
    let top : z *ℤ pos (2 ^ F) ≡ (z *ℤ pos u) *ℤ pos 256 = ap (λ (t : ℕ). z *ℤ pos t) (unit.is ∙ by_other u) ∙ sym (scale-scale z u 256) in
    let make : ℤ → ℤ → Interval = λ l h. record { lo = l; hi = h } in
    ap (λ t. make (floor_of t (pos 256)) (ceil_of t (pos 256))) top
    ∙ ap (λ l. make l (ceil_of ((z *ℤ pos u) *ℤ pos 256) (pos 256))) (floor_whole (z *ℤ pos u) 256 (omega arith))
    ∙ ap (λ h. make (z *ℤ pos u) h) (ceil_whole (z *ℤ pos u) 256 (omega arith))
  where
    by_other : (u : ℕ) → 256 * u ≡ u * 256
    by_other u = omega arith

-- ---- the turn at length 1

-- a part by the length
pub record HasPart (F : ℕ) (a : ℤ) (size : Interval) : Type 0 where
  pub part : Interval
  pub is : quotient F (exactly a) size ≡ Ok part
  pub lo_within : unsigned_abs part.lo ≤ 2 * 2 ^ F
  pub hi_within : unsigned_abs part.hi ≤ 2 * 2 ^ F

-- one of its corners
corner_within : (F : ℕ) (a : ℤ) (d : ℕ) → unsigned_abs a ≤ 2 ^ 23 * 2 ^ F → 2 ^ 22 * 2 ^ F ≤ d
    → (unsigned_abs (floor_of (a *ℤ pos (2 ^ F)) (pos d)) ≤ 2 * 2 ^ F) × (unsigned_abs (ceil_of (a *ℤ pos (2 ^ F)) (pos d)) ≤ 2 * 2 ^ F)
corner_within F a d small long =
    let top : ℤ = a *ℤ pos (2 ^ F) in
    let some : 0 < d = omega (arith, unit-positive F) in
    let size : unsigned_abs top ≤ 2 * 2 ^ F * d =
    rw unsigned_abs-mul (omega (arith, mul-le (unsigned_abs a) (2 ^ F) (2 ^ 23 * 2 ^ F) (2 ^ F) small (le_refl _), mul-le (2 * 2 ^ F) (2 ^ 22 * 2 ^ F) (2 * 2 ^ F) d (le_refl _) long)) in
    let b = quotients_bounded top top d (2 * 2 ^ F) some (≤ℤ_refl _) size size in
    (b.lo_within, b.hi_within)

pub part_of : (F : ℕ) (a : ℤ) (lo hi : ℕ) → unsigned_abs a ≤ 2 ^ 23 * 2 ^ F → 2 ^ 22 * 2 ^ F ≤ lo → lo ≤ hi → HasPart F a (record { lo = pos lo; hi = pos hi })
part_of F a lo hi small long order =
    let size : Interval = record { lo = pos lo; hi = pos hi } in
    let floors : ℕ → ℤ = λ d. floor_of (a *ℤ pos (2 ^ F)) (pos d) in
    let ceils : ℕ → ℤ = λ d. ceil_of (a *ℤ pos (2 ^ F)) (pos d) in
    let some : 0 < lo = omega (arith, unit-positive F) in
    let zero_out : holds_zero size ≡ false = grind (arith, ints) in
    let low = corner_within F a lo small long in
    let high = corner_within F a hi small (omega arith) in
    let part : Interval = record { lo = least_at (λ x b. floor_of (x *ℤ pos (one F)) b) (exactly a) size; hi = greatest_at (λ x b. ceil_of (x *ℤ pos (one F)) b) (exactly a) size } in
    let lo_in : unsigned_abs part.lo ≤ 2 * 2 ^ F = least_within (floors lo) (floors hi) (floors lo) (floors hi) (2 * 2 ^ F) low.0 high.0 low.0 high.0 in
    let hi_in : unsigned_abs part.hi ≤ 2 * 2 ^ F = greatest_within (ceils lo) (ceils hi) (ceils lo) (ceils hi) (2 * 2 ^ F) low.1 high.1 low.1 high.1 in
    let wide : 2 * 2 ^ F ≤ 2 ^ (50 + F) = omega (arith, pow-add 2 50 F) in
    record {
      part = part;
      is = sym (quotient-bounded F (exactly a) size zero_out) ∙ bounded-ok 50 F part (omega (arith, lo_in, wide)) (omega (arith, hi_in, wide));
      lo_within = lo_in;
      hi_within = hi_in;
    }

-- the length of the turn
pub record HasSize (F : ℕ) (x y : Interval) : Type 0 where
  pub total : Interval
  pub total_is : sum F x y ≡ Ok total
  pub lo : ℕ
  pub hi : ℕ
  pub is : root F total ≡ Ok (record { lo = pos lo; hi = pos hi })
  pub long : 2 ^ 22 * 2 ^ F ≤ lo
  pub order : lo ≤ hi

pub size_of : (F : ℕ) (x y : Interval) → pos 0 ≤ℤ x.lo → x.lo ≤ℤ x.hi → x.hi ≤ℤ pos (2 ^ 46 * 2 ^ F) → pos 0 ≤ℤ y.lo → y.lo ≤ℤ y.hi → y.hi ≤ℤ pos (2 ^ 46 * 2 ^ F)
    → pos (2 ^ 44 * 2 ^ F) ≤ℤ (x.lo +ℤ y.lo) → HasSize F x y
size_of F x y x_from x_order x_to y_from y_order y_to great =
    let total : Interval = record { lo = x.lo +ℤ y.lo; hi = x.hi +ℤ y.hi } in
    let wide : 2 ^ 47 * 2 ^ F ≤ 2 ^ (50 + F) = omega (arith, pow-add 2 50 F) in
    let unit : 0 < 2 ^ F = unit-positive F in
    let positive : pos 0 <ℤ total.lo = omega (arith, ints) in
    let m : ℕ = unsigned_abs total.lo in
    let n : ℕ = unsigned_abs total.hi in
    let below : m ≤ n = omega (arith, ints) in
    let least : 2 ^ 44 * 2 ^ F ≤ m = omega (arith, ints) in
    record {
      total = total;
      total_is = bounded-ok 50 F total (omega (arith, ints, x_from, x_order, x_to, y_from, y_order, y_to, wide)) (omega (arith, ints, x_from, x_order, x_to, y_from, y_order, y_to, wide));
      lo = floor_root (m * one F);
      hi = ceil_root (n * one F);
      is = sym (root-real F total positive);
      long = root_below (2 ^ 22 * 2 ^ F) (floor_root (m * one F)) (m * one F) (omega (arith, mul-le (2 ^ 44 * 2 ^ F) (2 ^ F) m (2 ^ F) least (le_refl _))) (floor_root-bounds (m * one F)).1;
      order = floor_root_below_ceil_root (m * one F) (n * one F) (mul-le m (one F) n (one F) below (le_refl _));
    }

-- all of them
pub record HasTurn (F : ℕ) (a b : ℤ) : Type 0 where
  pub size : Interval
  pub cos : Interval
  pub sin : Interval
  pub is : evaluate {N = What} F (exactly a ∷ exactly b ∷ []) unit_turn ≡ Ok (size ∷ cos ∷ sin ∷ [])
  pub cos_lo : unsigned_abs cos.lo ≤ 2 * 2 ^ F
  pub cos_hi : unsigned_abs cos.hi ≤ 2 * 2 ^ F
  pub sin_lo : unsigned_abs sin.lo ≤ 2 * 2 ^ F
  pub sin_hi : unsigned_abs sin.hi ≤ 2 * 2 ^ F

pub evaluated : (F : ℕ) (x y p q t size cos sin : Interval) → product F x x ≡ Ok p → product F y y ≡ Ok q → sum F p q ≡ Ok t → root F t ≡ Ok size → quotient F x size ≡ Ok cos → quotient F y size ≡ Ok sin
    → evaluate {N = What} F (x ∷ y ∷ []) unit_turn ≡ Ok (size ∷ cos ∷ sin ∷ [])
unfolding unit_turn
evaluated F x y p q t size cos sin p_is q_is t_is size_is cos_is sin_is = rw (p_is, q_is, t_is, size_is, cos_is, sin_is) refl

pub turn_of : (F : ℕ) (a b : ℤ) → unsigned_abs a ≤ 2 ^ 23 * 2 ^ F → unsigned_abs b ≤ 2 ^ 23 * 2 ^ F → 2 ^ 22 * 2 ^ F ≤ max (unsigned_abs a) (unsigned_abs b) → HasTurn F a b
turn_of F a b a_small b_small great =
    let p = square_of F a a_small in
    let q = square_of F b b_small in
    let sum_great : pos (2 ^ 44 * 2 ^ F) ≤ℤ (p.square.lo +ℤ q.square.lo) = elim (cases_lt (unsigned_abs a) (unsigned_abs b)) [
      | inl less ↦ omega (arith, ints, q.great (omega arith), p.lo_from)
      | inr less ↦ omega (arith, ints, p.great (omega arith), q.lo_from)
    ] in
    let size = size_of F p.square q.square p.lo_from p.ordered p.hi_to q.lo_from q.ordered q.hi_to sum_great in
    let cos = part_of F a size.lo size.hi a_small size.long size.order in
    let sin = part_of F b size.lo size.hi b_small size.long size.order in
    record {
      size = record { lo = pos size.lo; hi = pos size.hi };
      cos = cos.part;
      sin = sin.part;
      is = evaluated F (exactly a) (exactly b) p.square q.square size.total _ cos.part sin.part p.is q.is size.total_is size.is cos.is sin.is;
      cos_lo = cos.lo_within;
      cos_hi = cos.hi_within;
      sin_lo = sin.lo_within;
      sin_hi = sin.hi_within;
    }
