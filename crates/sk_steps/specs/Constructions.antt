-- The five constructions: the quantities that give w from u and v, in order. Six boxes are given: u and v in the kept
-- child, u and w in the child X, v and w in the child Y. The last quantities are the numbers of w.
use Rattle.std.specs.Prelude.{pos, List, [], ◌∷◌}
use Rattle.sk_base.specs.declared.Sign.{Sign}
use Rattle.sk_steps.specs.Expressions.{Expression, earlier, number, signed, ◌⊕◌, ◌⊖◌, ◌⊗◌, ◌⊘◌, square_root, length_box, normal_box}
use Rattle.sk_steps.specs.declared.what.What.{What}
use Rattle.sk_steps.specs.declared.what.What.TheVariants.{Base2, Base, First2, Second2, Foot, Height, Ex, Ey, Gap1, Gap2, Tilt, Rise, Lift, Reach, Cos, Sin, Det, F, G, X, Y, A, B, C}
use Rattle.sk_steps.specs.PointsAndLines.{point, line, dist2, gap}

-- point, point: a point
unfoldable pub point_by_points : Sign → List (What × Expression)
point_by_points root =
    let u = point 0 in let v = point 1 in
    let u_X = point 2 in let w_X = point 3 in
    let v_Y = point 4 in let w_Y = point 5 in
    let base2 = earlier 0 in let base = earlier 1 in let first2 = earlier 2 in let second2 = earlier 3 in
    let foot = earlier 4 in let height = earlier 5 in let ex = earlier 6 in let ey = earlier 7 in
    let k = signed root height in
    (Base2, dist2 u v)
    ∷ (Base, square_root base2)
    ∷ (First2, dist2 u_X w_X)
    ∷ (Second2, dist2 v_Y w_Y)
    ∷ (Foot, ((base2 ⊕ first2) ⊖ second2) ⊘ (base ⊕ base))
    ∷ (Height, square_root (first2 ⊖ foot ⊗ foot))
    ∷ (Ex, (v.x ⊖ u.x) ⊘ base)
    ∷ (Ey, (v.y ⊖ u.y) ⊘ base)
    ∷ (X, length_box ((u.x ⊕ ex ⊗ foot) ⊖ ey ⊗ k))
    ∷ (Y, length_box ((u.y ⊕ ey ⊗ foot) ⊕ ex ⊗ k))
    ∷ []

-- point, point: a line
unfoldable pub line_by_points : Sign → List (What × Expression)
line_by_points root =
    let u = point 0 in let v = point 1 in
    let u_X = point 2 in let w_X = line 3 in
    let v_Y = point 4 in let w_Y = line 5 in
    let base2 = earlier 0 in let base = earlier 1 in let gap1 = earlier 2 in let gap2 = earlier 3 in
    let tilt = earlier 4 in let rise = earlier 5 in let ex = earlier 6 in let ey = earlier 7 in
    let a = earlier 8 in let b = earlier 9 in
    let k = signed root rise in
    (Base2, dist2 u v)
    ∷ (Base, square_root base2)
    ∷ (Gap1, gap u_X w_X)
    ∷ (Gap2, gap v_Y w_Y)
    ∷ (Tilt, (gap2 ⊖ gap1) ⊘ base)
    ∷ (Rise, square_root (number (pos 1) ⊖ tilt ⊗ tilt))
    ∷ (Ex, (v.x ⊖ u.x) ⊘ base)
    ∷ (Ey, (v.y ⊖ u.y) ⊘ base)
    ∷ (A, normal_box (ex ⊗ tilt ⊖ ey ⊗ k))
    ∷ (B, normal_box (ey ⊗ tilt ⊕ ex ⊗ k))
    ∷ (C, length_box ((a ⊗ u.x ⊕ b ⊗ u.y) ⊖ gap1))
    ∷ []

-- point, line: a point
unfoldable pub point_by_line : Sign → List (What × Expression)
point_by_line root =
    let u = point 0 in let v = line 1 in
    let u_X = point 2 in let w_X = point 3 in
    let v_Y = line 4 in let w_Y = point 5 in
    let first2 = earlier 0 in let gap2 = earlier 1 in let lift = earlier 2 in let reach = earlier 3 in
    let k = signed root reach in
    (First2, dist2 u_X w_X)
    ∷ (Gap2, gap w_Y v_Y)
    ∷ (Lift, gap2 ⊖ gap u v)
    ∷ (Reach, square_root (first2 ⊖ lift ⊗ lift))
    ∷ (X, length_box ((u.x ⊕ v.a ⊗ lift) ⊕ v.b ⊗ k))
    ∷ (Y, length_box ((u.y ⊕ v.b ⊗ lift) ⊖ v.a ⊗ k))
    ∷ []

-- point, line: a line
unfoldable pub line_by_line : List (What × Expression)
line_by_line =
    let u = point 0 in let v = line 1 in
    let u_X = point 2 in let w_X = line 3 in
    let v_Y = line 4 in let w_Y = line 5 in
    let gap1 = earlier 0 in let cos = earlier 1 in let sin = earlier 2 in let a = earlier 3 in let b = earlier 4 in
    (Gap1, gap u_X w_X)
    ∷ (Cos, v_Y.a ⊗ w_Y.a ⊕ v_Y.b ⊗ w_Y.b)
    ∷ (Sin, v_Y.a ⊗ w_Y.b ⊖ v_Y.b ⊗ w_Y.a)
    ∷ (A, normal_box (cos ⊗ v.a ⊖ sin ⊗ v.b))
    ∷ (B, normal_box (sin ⊗ v.a ⊕ cos ⊗ v.b))
    ∷ (C, length_box ((a ⊗ u.x ⊕ b ⊗ u.y) ⊖ gap1))
    ∷ []

-- line, line: a point
unfoldable pub point_by_lines : List (What × Expression)
point_by_lines =
    let u = line 0 in let v = line 1 in
    let u_X = line 2 in let w_X = point 3 in
    let v_Y = line 4 in let w_Y = point 5 in
    let gap1 = earlier 0 in let gap2 = earlier 1 in let det = earlier 2 in let f = earlier 3 in let g = earlier 4 in
    (Gap1, gap w_X u_X)
    ∷ (Gap2, gap w_Y v_Y)
    ∷ (Det, u.a ⊗ v.b ⊖ v.a ⊗ u.b)
    ∷ (F, u.c ⊕ gap1)
    ∷ (G, v.c ⊕ gap2)
    ∷ (X, length_box ((f ⊗ v.b ⊖ g ⊗ u.b) ⊘ det))
    ∷ (Y, length_box ((u.a ⊗ g ⊖ v.a ⊗ f) ⊘ det))
    ∷ []
