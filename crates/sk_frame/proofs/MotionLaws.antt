-- The motion of a frame along the axes, and on finer grids.
use Rattle.std.proofs.Common.{◌≡◌, ℕ, ◌+◌, ◌-◌, ◌*◌, ◌^◌, ◌<◌, ◌≤◌, ℤ, pos, ◌*ℤ◌, unsigned_abs, List, [], ◌∷◌, Result, Ok, sym, ap, ◌∙◌, subst, arith}
use Rattle.sk_orient.specs.PlacedSigns.{placed_sign}
use Rattle.std.proofs.lemmas.Int.{ints}
use Rattle.std.proofs.lemmas.Nat.{pow-add}
use Rattle.std.specs.Int.Signed.{≤ℤ_refl}
use Rattle.sk_interval.specs.declared.Cause.{Cause}
use Rattle.sk_interval.specs.Interval.{Interval, one}
use Rattle.sk_interval.specs.Rounding.{floor_of, ceil_of}
use Rattle.sk_interval.specs.Nesting.{IsInside}
use Rattle.sk_interval.specs.Operations.{whole}
use Rattle.sk_interval.proofs.AroundLemmas.{pos-nonzero, size_of_bounds, floor_below_ceil}
use Rattle.sk_interval.proofs.FinerSums.{unit_sum, micrometres-IsInside}
use Rattle.sk_interval.proofs.QuotientLemmas.{scaled, floor-at_most, at_most-floor, ceil-at_least, at_least-ceil}
use Rattle.sk_interval.proofs.ScaleLemmas.{scale-scale}
use Rattle.sk_steps.specs.declared.What.{What}
use Rattle.sk_steps.specs.Boxes.{from_end}
use Rattle.sk_steps.specs.Nesting.{AreInside, Keeps}
use Rattle.sk_steps.specs.Quantities.{evaluate}
use Rattle.sk_steps.proofs.NestingLemmas.{evaluate-Keeps, from_end-IsInside}
use Rattle.sk_steps.specs.declared.Motion.{Motion}
use Rattle.sk_steps.specs.MotionNesting.{IsMotionInside}
use Rattle.sk_steps.specs.SettledMotions.{turned, unit_turn}
use Rattle.sk_frame.specs.declared.frames.Frame.{Frame}
use Rattle.sk_frame.specs.Frames.{IsSoundFrame}
use Rattle.sk_frame.specs.FrameMotions.{ratio, parts_motion, frame_motion, IsExactAlongAxes}
use Rattle.sk_frame.proofs.UnitTurns.{IsUnit, unit_of, exactly, ratio_exact}
use Rattle.sk_frame.proofs.FrameTurns.{with_turn, turn_of_frame, motion_is}
use Rattle.sk_frame.proofs.ExactTurns.{along, across}

one_motion : {G : Type 0} (m n : Motion G) → (let found : Result (Motion G) (What × Cause) = Ok m in found ≡ Ok n) → m ≡ n
one_motion m n same = cc

-- ---- along the axes

module _ {G : Type 0} (F : ℕ) (enough : 16 ≤ F) (f : Frame) (sound : IsSoundFrame f) (m : Motion G) (is : Ok m ≡ frame_motion F f) where
  abbrev u : ℕ
  u = 2 ^ (F - 8)

  abbrev t : ℕ
  t = 2 ^ (F - 16)

  unit : IsUnit F u
  unit = unit_of F (omega (arith, enough))

  finer : u ≡ 256 * t
  finer = (let sum : F - 8 ≡ 8 + (F - 16) = omega (arith, enough) in ap (λ (k : ℕ). 2 ^ k) sum ∙ pow-add 2 8 (F - 16))

  abbrev found : Interval → Interval → Result (Motion G) (What × Cause)
  found x y = turned (parts_motion F f) (evaluate F (x ∷ y ∷ []) unit_turn)

  nothing : pos 0 *ℤ pos u ≡ pos 0
  nothing = omega (arith, ints)

  x_few : unsigned_abs f.turn.x ≤ 2147483647
  x_few = size_of_bounds f.turn.x 2147483647 sound.turn.short.0.0 sound.turn.short.0.1

  y_few : unsigned_abs f.turn.y ≤ 2147483647
  y_few = size_of_bounds f.turn.y 2147483647 sound.turn.short.1.0 sound.turn.short.1.1

  along_axis : f.turn.y ≡ pos 0 → (m.cos ≡ whole F (placed_sign f.turn.x)) × (m.sin ≡ whole F (pos 0))
  along_axis y_is =
      let turns = sound.turn.turns in
      let some : 0 < unsigned_abs f.turn.x = (let none : unsigned_abs f.turn.y ≡ 0 = ap unsigned_abs y_is in omega (arith, turns, none)) in
      let turn = along F u t unit.is finer unit.some f.turn.x x_few some in
      let y_ratio : ratio F 256 f.turn.y ≡ exactly (pos 0) = ratio_exact F u unit f.turn.y ∙ ap (λ (z : ℤ). exactly (z *ℤ pos u)) y_is ∙ ap exactly nothing in
      let whole_is : Ok m ≡ Ok (with_turn (parts_motion F f) (whole F (placed_sign f.turn.x)) (whole F (pos 0))) =
      is ∙ ap (λ x. found x (ratio F 256 f.turn.y)) (ratio_exact F u unit f.turn.x) ∙ ap (λ y. found (exactly (f.turn.x *ℤ pos u)) y) y_ratio ∙ ap (turned (parts_motion F f)) turn.1 in
      let same = one_motion m _ whole_is in
      (ap (λ (n : Motion G). n.cos) same, ap (λ (n : Motion G). n.sin) same)

  across_axis : f.turn.x ≡ pos 0 → (m.cos ≡ whole F (pos 0)) × (m.sin ≡ whole F (placed_sign f.turn.y))
  across_axis x_is =
      let turns = sound.turn.turns in
      let some : 0 < unsigned_abs f.turn.y = (let none : unsigned_abs f.turn.x ≡ 0 = ap unsigned_abs x_is in omega (arith, turns, none)) in
      let turn = across F u t unit.is finer unit.some f.turn.y y_few some in
      let x_ratio : ratio F 256 f.turn.x ≡ exactly (pos 0) = ratio_exact F u unit f.turn.x ∙ ap (λ (z : ℤ). exactly (z *ℤ pos u)) x_is ∙ ap exactly nothing in
      let whole_is : Ok m ≡ Ok (with_turn (parts_motion F f) (whole F (pos 0)) (whole F (placed_sign f.turn.y))) =
      is ∙ ap (λ x. found x (ratio F 256 f.turn.y)) x_ratio ∙ ap (λ y. found (exactly (pos 0)) y) (ratio_exact F u unit f.turn.y) ∙ ap (turned (parts_motion F f)) turn.1 in
      let same = one_motion m _ whole_is in
      (ap (λ (n : Motion G). n.cos) same, ap (λ (n : Motion G). n.sin) same)

  pub exact_along_axes : IsExactAlongAxes F f.turn m
  exact_along_axes = record { along = along_axis; across = across_axis }

-- ---- on finer grids

ratio_inside : (F k d : ℕ) → 0 < d → (n : ℤ) → IsInside k (ratio (F + k) d n) (ratio F d n)
ratio_inside F k d some n =
    let top : ℤ = n *ℤ pos (one F) in
    let nonzero = pos-nonzero d some in
    let e : (n *ℤ pos (one F)) *ℤ pos (2 ^ k) ≡ n *ℤ pos (one (F + k)) = scale-scale n (one F) (2 ^ k) ∙ ap (λ (t : ℕ). n *ℤ pos t) (sym (unit_sum F k)) in
    let swap : (z : ℤ) → (z *ℤ pos (2 ^ k)) *ℤ pos d ≡ (z *ℤ pos d) *ℤ pos (2 ^ k) = λ z. scale-scale z (2 ^ k) d ∙ ap (λ (t : ℕ). z *ℤ pos t) (other_way (2 ^ k) d) ∙ sym (scale-scale z d (2 ^ k)) in
    record {
      from = at_most-floor _ _ (pos d) nonzero (rw (swap (floor_of top (pos d)), ← e) (scaled _ _ (2 ^ k) (floor-at_most top (pos d) nonzero)));
      ordered = floor_below_ceil _ _ d some (≤ℤ_refl _);
      to = at_least-ceil _ _ (pos d) nonzero (rw (swap (ceil_of top (pos d)), ← e) (scaled _ _ (2 ^ k) (ceil-at_least top (pos d) nonzero)));
    }
  where
    other_way : (s t : ℕ) → s * t ≡ t * s
    other_way s t = omega arith

-- H is the finer grid
pub finer_motion : {G : Type 0} (H : Type 0) (F : ℕ) → 8 ≤ F → (f : Frame) → IsSoundFrame f → (m : Motion G) → Ok m ≡ frame_motion F f
    → (k : ℕ) → (fine : Motion H) × (frame_motion (F + k) f ≡ Ok fine) × IsMotionInside k fine m
finer_motion {G} H F enough f sound m is k =
    let u : ℕ = 2 ^ (F - 8) in
    let unit = unit_of F enough in
    let turn = turn_of_frame F enough f sound u unit in
    let coarse : m ≡ with_turn (parts_motion F f) turn.cos turn.sin = one_motion m _ (is ∙ motion_is F enough f sound u unit turn) in
    let x : Interval = ratio F 256 f.turn.x in
    let y : Interval = ratio F 256 f.turn.y in
    let x' : Interval = ratio (F + k) 256 f.turn.x in
    let y' : Interval = ratio (F + k) 256 f.turn.y in
    let inside : AreInside k (x' ∷ y' ∷ []) (x ∷ y ∷ []) = (ratio_inside F k 256 (omega arith) f.turn.x, (ratio_inside F k 256 (omega arith) f.turn.y, tt)) in
    let found : Interval → Interval → Result (List Interval) (What × Cause) = λ a b. evaluate F (a ∷ b ∷ []) unit_turn in
    let there : found x y ≡ Ok (turn.size ∷ turn.cos ∷ turn.sin ∷ []) =
    ap (λ a. found a y) (ratio_exact F u unit f.turn.x) ∙ ap (λ b. found (exactly (f.turn.x *ℤ pos u)) b) (ratio_exact F u unit f.turn.y) ∙ turn.is in
    let kept : Keeps (AreInside k) (evaluate {N = What} (F + k) (x' ∷ y' ∷ []) unit_turn) (Ok (turn.size ∷ turn.cos ∷ turn.sin ∷ [])) =
    subst (λ (r : Result (List Interval) (What × Cause)). Keeps (AreInside k) (evaluate {N = What} (F + k) (x' ∷ y' ∷ []) unit_turn) r) there
    (evaluate-Keeps F k (x' ∷ y' ∷ []) (x ∷ y ∷ []) unit_turn inside) in
    let xs : List Interval = kept.0 in
    let ys : List Interval = turn.size ∷ turn.cos ∷ turn.sin ∷ [] in (
      with_turn (parts_motion (F + k) f) (from_end xs 2) (from_end xs 1),
      ap (turned (parts_motion (F + k) f)) kept.1,
      subst (λ (n : Motion G). IsMotionInside k (with_turn (parts_motion {G = H} (F + k) f) (from_end xs 2) (from_end xs 1)) n) (sym coarse) (record {
        cos = from_end-IsInside k xs ys 2 kept.2;
        sin = from_end-IsInside k xs ys 1 kept.2;
        fx = micrometres-IsInside F k f.from.x;
        fy = micrometres-IsInside F k f.from.y;
        tx = ratio_inside F k 1000000 (omega arith) f.to.x;
        ty = ratio_inside F k 1000000 (omega arith) f.to.y;
      }),
    )
