-- Motions and carried boxes on a finer grid.
use Rattle.std.proofs.Common.{ℕ, ◌+◌, List, ◌++◌, Result, Ok, Err, ap}
use Rattle.sk_base.specs.declared.Kind.{Kind}
use Rattle.sk_interval.specs.declared.Cause.{Cause}
use Rattle.sk_interval.specs.declared.Cause.TheVariants.{Flat, Gap, Range}
use Rattle.sk_interval.specs.Interval.{Interval}
use Rattle.sk_steps.specs.declared.boxes.BoxOf.{BoxOf}
use Rattle.sk_steps.specs.declared.what.What.{What}
use Rattle.sk_steps.specs.Boxes.{kind_of, numbers}
use Rattle.sk_steps.specs.Nesting.{AreInside, Keeps, IsBoxInside}
use Rattle.sk_steps.proofs.ExpressionLemmas.{append-AreInside}
use Rattle.sk_steps.proofs.NestingLemmas.{evaluate-Keeps, from_end-IsInside, numbers-AreInside, same_kind, box_of-Keeps}
use Rattle.sk_steps.specs.declared.frames.Pair.{Pair}
use Rattle.sk_steps.specs.declared.frames.Motion.{Motion}
use Rattle.sk_steps.specs.Motions.{motion, motion_of, last_motion, quantities, inputs}
use Rattle.sk_steps.specs.Carried.{carried, carried_box, motion_numbers}
use Rattle.sk_steps.specs.MotionNesting.{IsPairInside, IsMotionInside}

last_motion-IsMotionInside : (G H : Type 0) (k : ℕ) (kind : Kind) (xs ys : List Interval) → AreInside k xs ys
    → IsMotionInside {G = G} {H = H} k (last_motion kind xs) (last_motion kind ys)
last_motion-IsMotionInside G H k Kind.Point xs ys h = record {
  cos = from_end-IsInside k xs ys 6 h;
  sin = from_end-IsInside k xs ys 5 h;
  fx = from_end-IsInside k xs ys 4 h;
  fy = from_end-IsInside k xs ys 3 h;
  tx = from_end-IsInside k xs ys 2 h;
  ty = from_end-IsInside k xs ys 1 h;
}
last_motion-IsMotionInside G H k Kind.Line xs ys h = record {
  cos = from_end-IsInside k xs ys 8 h;
  sin = from_end-IsInside k xs ys 7 h;
  fx = from_end-IsInside k xs ys 5 h;
  fy = from_end-IsInside k xs ys 4 h;
  tx = from_end-IsInside k xs ys 2 h;
  ty = from_end-IsInside k xs ys 1 h;
}

motion_of-Keeps : (G H : Type 0) (k : ℕ) (kind : Kind) (fine coarse : Result (List Interval) (What × Cause)) → Keeps (AreInside k) fine coarse
    → Keeps (IsMotionInside {G = G} {H = H} k) (motion_of kind fine) (motion_of kind coarse)
motion_of-Keeps G H k kind fine (Ok ys) h = (last_motion kind h.0, ap (motion_of kind) h.1, last_motion-IsMotionInside G H k kind h.0 ys h.2)
motion_of-Keeps G H k kind fine (Err (what, Gap lo hi)) h = (h.0, h.1, ap (motion_of kind) h.2)
motion_of-Keeps G H k kind fine (Err (what, Flat lo hi)) h = tt
motion_of-Keeps G H k kind fine (Err (what, Range)) h = tt

inputs-AreInside : {G H : Type 0} (k : ℕ) (fine_old fine_new : Pair G) (old new : Pair H) → IsPairInside k fine_old old → IsPairInside k fine_new new
    → AreInside k (inputs fine_old fine_new) (inputs old new)
inputs-AreInside k fine_old fine_new old new h s =
    append-AreInside k _ _ _ _ (numbers-AreInside k fine_old.p old.p h.p)
    (append-AreInside k _ _ _ _ (numbers-AreInside k fine_old.q old.q h.q)
    (append-AreInside k _ _ _ _ (numbers-AreInside k fine_new.p new.p s.p) (numbers-AreInside k fine_new.q new.q s.q)))

pub motion-Keeps : (G H : Type 0) (F k : ℕ) (fine_old fine_new : Pair G) (old new : Pair H) → IsPairInside k fine_old old → IsPairInside k fine_new new
    → Keeps (IsMotionInside k) (motion (F + k) fine_old fine_new) (motion F old new)
motion-Keeps G H F k fine_old fine_new old new h s =
    rw (same_kind k fine_new.p new.p s.p, same_kind k fine_new.q new.q s.q)
    (motion_of-Keeps G H k (kind_of new.p) _ _
    (evaluate-Keeps F k (inputs fine_old fine_new) (inputs old new) (quantities (kind_of new.p) (kind_of new.q)) (inputs-AreInside k fine_old fine_new old new h s)))

motion_numbers-AreInside : {G H : Type 0} (k : ℕ) (fine : Motion G) (coarse : Motion H) → IsMotionInside k fine coarse → AreInside k (motion_numbers fine) (motion_numbers coarse)
motion_numbers-AreInside k fine coarse h = (h.cos, (h.sin, (h.fx, (h.fy, (h.tx, (h.ty, tt))))))

pub carried-Keeps : (G H : Type 0) (F k : ℕ) (fine : Motion G) (coarse : Motion H) (b : BoxOf G) (c : BoxOf H) → IsMotionInside k fine coarse → IsBoxInside k b c
    → Keeps (IsBoxInside k) (carried (F + k) fine b) (carried F coarse c)
carried-Keeps G H F k fine coarse b c h s =
    rw (same_kind k b c s)
    (box_of-Keeps G H k (kind_of c) _ _
    (evaluate-Keeps F k (motion_numbers fine ++ numbers b) (motion_numbers coarse ++ numbers c) (carried_box (kind_of c))
    (append-AreInside k (motion_numbers fine) (motion_numbers coarse) (numbers b) (numbers c) (motion_numbers-AreInside k fine coarse h) (numbers-AreInside k b c s))))
