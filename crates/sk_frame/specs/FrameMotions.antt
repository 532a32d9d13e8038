-- The motion that takes a frame to where it is drawn.
use Rattle.std.specs.Prelude.{◌≡◌, ℕ, ◌+◌, ℤ, pos, ◌*ℤ◌, Result, Ok}
use Rattle.sk_interval.specs.declared.Cause.{Cause}
use Rattle.sk_interval.specs.Interval.{Interval, one}
use Rattle.sk_interval.specs.Rounding.{floor_of, ceil_of}
use Rattle.sk_interval.specs.Operations.{of_micrometres, whole}
use Rattle.sk_steps.specs.declared.What.{What}
use Rattle.sk_steps.specs.declared.Motion.{Motion}
use Rattle.sk_steps.specs.SettledMotions.{settled_motion}
use Rattle.sk_steps.specs.MotionNesting.{IsMotionInside}
use Rattle.sk_orient.specs.declared.Vector.{Vector}
use Rattle.sk_orient.specs.PlacedSigns.{placed_sign}
use Rattle.sk_frame.specs.declared.frames.Frame.{Frame}

-- around n / d
abbrev pub ratio : ℕ → ℕ → ℤ → Interval
ratio F d n = record { lo = floor_of (n *ℤ pos (one F)) (pos d); hi = ceil_of (n *ℤ pos (one F)) (pos d) }

-- the motion by the parts of the turn, which are by 256 and so stand on the grid, and by the two places, in millimetres
abbrev pub parts_motion : {G : Type 0} → ℕ → Frame → Motion G
parts_motion F f = record {
  cos = ratio F 256 f.turn.x;
  sin = ratio F 256 f.turn.y;
  fx = of_micrometres F f.from.x;
  fy = of_micrometres F f.from.y;
  tx = ratio F 1000000 f.to.x;
  ty = ratio F 1000000 f.to.y;
}

-- the motion with its turn at length 1, or the first quantity that has a cause, with that; a sound frame has none
abbrev pub frame_motion : {G : Type 0} → ℕ → Frame → Result (Motion G) (What × Cause)
frame_motion F f = settled_motion F (parts_motion F f)

-- a turn along an axis has a cosine and a sine that are exactly -1, 0 or 1
pub record IsExactAlongAxes {G : Type 0} (F : ℕ) (turn : Vector) (m : Motion G) : Type 0 where
  pub along : turn.y ≡ pos 0 → (m.cos ≡ whole F (placed_sign turn.x)) × (m.sin ≡ whole F (pos 0))
  pub across : turn.x ≡ pos 0 → (m.cos ≡ whole F (pos 0)) × (m.sin ≡ whole F (placed_sign turn.y))

-- on every finer grid, the frame has a motion inside this one
abbrev pub HoldsFinerMotion : {G : Type 0} → ℕ → Frame → Motion G → Type 0
HoldsFinerMotion {G} F f coarse = (k : ℕ) → (fine : Motion G) × (frame_motion (F + k) f ≡ Ok fine) × IsMotionInside k fine coarse
