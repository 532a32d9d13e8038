-- The three motions: the quantities that take p and q from the child's frame to the kept child's, in order. Four boxes
-- are given: p' and q' in the child's frame, p and q in the kept child's.
use Rattle.std.specs.Prelude.{◌≡◌, ℕ, List, [], ◌∷◌, ◌++◌, Result, Ok, Err}
use Rattle.sk_base.specs.declared.Kind.{Kind}
use Rattle.sk_base.specs.declared.Kind.TheVariants.{Point, Line}
use Rattle.sk_interval.specs.declared.Cause.{Cause}
use Rattle.sk_interval.specs.Interval.{Interval}
use Rattle.sk_steps.specs.declared.what.What.{What}
use Rattle.sk_steps.specs.declared.what.What.TheVariants.{Cos, Sin, Span2, Fx, Fy, Tx, Ty, Det1, Det2}
use Rattle.sk_steps.specs.Expressions.{Expression, earlier, ◌⊕◌, ◌⊖◌, ◌⊗◌, ◌⊘◌}
use Rattle.sk_steps.specs.Quantities.{evaluate}
use Rattle.sk_steps.specs.PointsAndLines.{point, line, dist2}
use Rattle.sk_steps.specs.Boxes.{kind_of, numbers, from_end}
use Rattle.sk_steps.specs.declared.frames.Pair.{Pair}
use Rattle.sk_steps.specs.declared.frames.Motion.{Motion}

-- point, point
unfoldable pub by_points : List (What × Expression)
by_points =
    let p' = point 0 in let q' = point 1 in let p = point 2 in let q = point 3 in
    let span2 = earlier 0 in
    (Span2, dist2 p' q')
    ∷ (Cos, ((q'.x ⊖ p'.x) ⊗ (q.x ⊖ p.x) ⊕ (q'.y ⊖ p'.y) ⊗ (q.y ⊖ p.y)) ⊘ span2)
    ∷ (Sin, ((q'.x ⊖ p'.x) ⊗ (q.y ⊖ p.y) ⊖ (q'.y ⊖ p'.y) ⊗ (q.x ⊖ p.x)) ⊘ span2)
    ∷ (Fx, p'.x)
    ∷ (Fy, p'.y)
    ∷ (Tx, p.x)
    ∷ (Ty, p.y)
    ∷ []

-- point, line
unfoldable pub by_point_and_line : List (What × Expression)
by_point_and_line =
    let p' = point 0 in let q' = line 1 in let p = point 2 in let q = line 3 in
    (Cos, q'.a ⊗ q.a ⊕ q'.b ⊗ q.b)
    ∷ (Sin, q'.a ⊗ q.b ⊖ q'.b ⊗ q.a)
    ∷ (Fx, p'.x)
    ∷ (Fy, p'.y)
    ∷ (Tx, p.x)
    ∷ (Ty, p.y)
    ∷ []

-- line, line
unfoldable pub by_lines : List (What × Expression)
by_lines =
    let p' = line 0 in let q' = line 1 in let p = line 2 in let q = line 3 in
    let det1 = earlier 2 in let det2 = earlier 5 in
    (Cos, p'.a ⊗ p.a ⊕ p'.b ⊗ p.b)
    ∷ (Sin, p'.a ⊗ p.b ⊖ p'.b ⊗ p.a)
    ∷ (Det1, p'.a ⊗ q'.b ⊖ q'.a ⊗ p'.b)
    ∷ (Fx, (p'.c ⊗ q'.b ⊖ q'.c ⊗ p'.b) ⊘ det1)
    ∷ (Fy, (p'.a ⊗ q'.c ⊖ q'.a ⊗ p'.c) ⊘ det1)
    ∷ (Det2, p.a ⊗ q.b ⊖ q.a ⊗ p.b)
    ∷ (Tx, (p.c ⊗ q.b ⊖ q.c ⊗ p.b) ⊘ det2)
    ∷ (Ty, (p.a ⊗ q.c ⊖ q.a ⊗ p.c) ⊘ det2)
    ∷ []

-- by the kinds of p and q
abbrev pub quantities : Kind → Kind → List (What × Expression)
quantities Point Point = by_points
quantities Point Line = by_point_and_line
quantities Line Line = by_lines
quantities Line Point = []

-- the motion of the last quantities, by the kind of p; by two lines two determinants stand among them
abbrev pub last_motion : {G : Type 0} → Kind → List Interval → Motion G
last_motion Point found = record { cos = from_end found 6; sin = from_end found 5; fx = from_end found 4; fy = from_end found 3; tx = from_end found 2; ty = from_end found 1 }
last_motion Line found = record { cos = from_end found 8; sin = from_end found 7; fx = from_end found 5; fy = from_end found 4; tx = from_end found 2; ty = from_end found 1 }

abbrev pub motion_of : {G N : Type 0} → Kind → Result (List Interval) N → Result (Motion G) N
motion_of kind (Ok found) = Ok (last_motion kind found)
motion_of kind (Err fault) = Err fault

abbrev pub inputs : {G : Type 0} → Pair G → Pair G → List Interval
inputs old new = numbers old.p ++ (numbers old.q ++ (numbers new.p ++ numbers new.q))

-- the motion from the old pair to the new one, or the first quantity that has a cause, with that
abbrev pub motion : {G : Type 0} → ℕ → Pair G → Pair G → Result (Motion G) (What × Cause)
motion F old new = motion_of (kind_of new.p) (evaluate F (inputs old new) (quantities (kind_of new.p) (kind_of new.q)))

-- a point stands before a line
abbrev pub HasMotion : Kind → Kind → Type 0
HasMotion Point q = Unit {0}
HasMotion Line Line = Unit {0}
HasMotion Line Point = ⊥

-- p and q are of the same kinds in both pairs, a point before a line
pub record AreAlike {G : Type 0} (old new : Pair G) : Type 0 where
  pub p_alike : kind_of old.p ≡ kind_of new.p
  pub q_alike : kind_of old.q ≡ kind_of new.q
  pub possible : HasMotion (kind_of new.p) (kind_of new.q)
