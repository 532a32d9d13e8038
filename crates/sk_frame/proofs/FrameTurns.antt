-- The motion of a sound frame.
use Rattle.std.proofs.Common.{◌≡◌, inl, inr, ℕ, ◌-◌, ◌*◌, ◌^◌, ◌≤◌, ℤ, pos, ◌*ℤ◌, max, unsigned_abs, [], ◌∷◌, Result, Ok, Err, ap, ◌∙◌, arith}
use Rattle.std.proofs.lemmas.Bool.{cases_lt}
use Rattle.std.proofs.lemmas.Int.{unsigned_abs-mul}
use Rattle.std.proofs.lemmas.Nat.{mul-le}
use native.Mathlib.Nat.{le_refl}
use Rattle.sk_base.specs.Bounds.{IsWithin}
use Rattle.sk_interval.specs.declared.Cause.{Cause}
use Rattle.sk_interval.specs.Interval.{Interval}
use Rattle.sk_interval.proofs.AroundLemmas.{size_of_bounds}
use Rattle.sk_steps.specs.declared.What.{What}
use Rattle.sk_steps.specs.declared.Motion.{Motion}
use Rattle.sk_steps.specs.Quantities.{evaluate}
use Rattle.sk_steps.specs.SettledMotions.{turned, unit_turn}
use Rattle.sk_frame.specs.declared.frames.Frame.{Frame}
use Rattle.sk_frame.specs.Frames.{IsSoundFrame}
use Rattle.sk_frame.specs.FrameMotions.{ratio, parts_motion, frame_motion}
use Rattle.sk_frame.proofs.UnitTurns.{IsUnit, unit_of, exactly, ratio_exact, HasTurn, turn_of}

part_size : (F u : ℕ) → IsUnit F u → (z : ℤ) → IsWithin 2147483647 z → unsigned_abs (z *ℤ pos u) ≤ 2 ^ 23 * 2 ^ F
part_size F u unit z within =
    let small = size_of_bounds z 2147483647 within.0 within.1 in
    rw unsigned_abs-mul (omega (arith, unit.is, mul-le (unsigned_abs z) u 2147483648 u (omega arith) (le_refl _)))

pub turn_of_frame : (F : ℕ) → 8 ≤ F → (f : Frame) → IsSoundFrame f → (u : ℕ) → IsUnit F u → HasTurn F (f.turn.x *ℤ pos u) (f.turn.y *ℤ pos u)
turn_of_frame F enough f sound u unit =
    let x : ℤ = f.turn.x in
    let y : ℤ = f.turn.y in
    let turns = sound.turn.turns in
    turn_of F (x *ℤ pos u) (y *ℤ pos u) (part_size F u unit x sound.turn.short.0) (part_size F u unit y sound.turn.short.1)
    (rw (unsigned_abs-mul x (pos u), unsigned_abs-mul y (pos u)) (greater (unsigned_abs x) (unsigned_abs y) turns))
  where
    greater : (a b : ℕ) → 2 ^ 30 ≤ max a b → 2 ^ 22 * 2 ^ F ≤ max (a * u) (b * u)
    greater a b turns = elim (cases_lt a b) [
      | inl less ↦ omega (arith, unit.is, mul-le (2 ^ 30) u b u (omega arith) (le_refl _))
      | inr less ↦ omega (arith, unit.is, mul-le (2 ^ 30) u a u (omega arith) (le_refl _))
    ]

-- the motion with a turn
abbrev pub with_turn : {G : Type 0} → Motion G → Interval → Interval → Motion G
with_turn m cos sin = record { cos = cos; sin = sin; fx = m.fx; fy = m.fy; tx = m.tx; ty = m.ty }

-- the motion has no fault, and its turn is that at length 1
pub motion_is : {G : Type 0} (F : ℕ) → 8 ≤ F → (f : Frame) → IsSoundFrame f → (u : ℕ) (unit : IsUnit F u) → (turn : HasTurn F (f.turn.x *ℤ pos u) (f.turn.y *ℤ pos u))
    → frame_motion {G = G} F f ≡ Ok (with_turn (parts_motion F f) turn.cos turn.sin)
motion_is {G} F enough f sound u unit turn =
    let parts : Motion G = parts_motion F f in
    let found : Interval → Interval → Result (Motion G) (What × Cause) = λ x y. turned parts (evaluate F (x ∷ y ∷ []) unit_turn) in
    ap (λ x. found x (ratio F 256 f.turn.y)) (ratio_exact F u unit f.turn.x)
    ∙ ap (λ y. found (exactly (f.turn.x *ℤ pos u)) y) (ratio_exact F u unit f.turn.y)
    ∙ ap (turned parts) turn.is

pub motion_there : {G : Type 0} (F : ℕ) → 8 ≤ F → (f : Frame) → IsSoundFrame f → (m : Motion G) × (frame_motion F f ≡ Ok m)
motion_there F enough f sound =
    let u : ℕ = 2 ^ (F - 8) in
    let unit = unit_of F enough in
    let turn = turn_of_frame F enough f sound u unit in
    (with_turn (parts_motion F f) turn.cos turn.sin, motion_is F enough f sound u unit turn)

pub never : {G : Type 0} (F : ℕ) → 8 ≤ F → (f : Frame) → IsSoundFrame f → (fault : What × Cause) → frame_motion {G = G} F f ≡ Err fault → ⊥
never {G} F enough f sound fault failed = (let there = motion_there {G = G} F enough f sound in clash there.0 (frame_motion F f) there.1 failed)
  where
    clash : (m : Motion G) (r : Result (Motion G) (What × Cause)) → r ≡ Ok m → r ≡ Err fault → ⊥
    clash m r is isnt = cc
