-- Motions on a finer grid, of k further digits, inside those on a coarser one.
use Rattle.std.specs.Prelude.{ℕ, ◌+◌, Result}
use Rattle.sk_interval.specs.declared.Cause.{Cause}
use Rattle.sk_interval.specs.Nesting.{IsInside}
use Rattle.sk_steps.specs.declared.boxes.BoxOf.{BoxOf}
use Rattle.sk_steps.specs.declared.what.What.{What}
use Rattle.sk_steps.specs.Nesting.{Keeps, IsBoxInside}
use Rattle.sk_steps.specs.declared.frames.Pair.{Pair}
use Rattle.sk_steps.specs.declared.frames.Motion.{Motion}
use Rattle.sk_steps.specs.Motions.{motion}
use Rattle.sk_steps.specs.Carried.{carried}

pub record IsPairInside {G H : Type 0} (k : ℕ) (fine : Pair G) (coarse : Pair H) : Type 0 where
  pub p : IsBoxInside k fine.p coarse.p
  pub q : IsBoxInside k fine.q coarse.q

pub record IsMotionInside {G H : Type 0} (k : ℕ) (fine : Motion G) (coarse : Motion H) : Type 0 where
  pub cos : IsInside k fine.cos coarse.cos
  pub sin : IsInside k fine.sin coarse.sin
  pub fx : IsInside k fine.fx coarse.fx
  pub fy : IsInside k fine.fy coarse.fy
  pub tx : IsInside k fine.tx coarse.tx
  pub ty : IsInside k fine.ty coarse.ty

-- on every finer grid, pairs inside these keep the answer
abbrev pub IsKeptByPairs : {G : Type 0} → ℕ → Pair G → Pair G → Result (Motion G) (What × Cause) → Type 0
IsKeptByPairs {G} F old new answer = (k : ℕ) (fine_old fine_new : Pair G) → IsPairInside k fine_old old → IsPairInside k fine_new new
    → Keeps (IsMotionInside k) (motion (F + k) fine_old fine_new) answer

-- on every finer grid, a motion and a box inside these keep the answer
abbrev pub IsKeptByMotion : {G : Type 0} → ℕ → Motion G → BoxOf G → Result (BoxOf G) (What × Cause) → Type 0
IsKeptByMotion {G} F m b answer = (k : ℕ) (fine : Motion G) (box : BoxOf G) → IsMotionInside k fine m → IsBoxInside k box b
    → Keeps (IsBoxInside k) (carried (F + k) fine box) answer
