-- The boxes that steps and frames make stay within their limits.
use Rattle.std.proofs.Common.{◌≡◌, inl, inr, ℕ, pos, ◌-◌, List, [], ◌∷◌, ◌++◌, length, take, Result, Ok, Err, refl, ap, sym, subst, ◌∙◌, arith, length-append, append_assoc}
use Rattle.std.proofs.Math.Seq.{get_or-append_seam}
use Rattle.sk_base.specs.declared.Kind.{Kind}
use Rattle.sk_base.specs.declared.Measure.{Measure}
use Rattle.sk_base.specs.declared.Measure.TheVariants.{PointPoint, PointLine, LineLine}
use Rattle.sk_base.specs.declared.Sign.{Sign}
use Rattle.sk_interval.specs.declared.Cause.{Cause}
use Rattle.sk_interval.specs.declared.Cause.TheVariants.{Range}
use Rattle.sk_interval.specs.Interval.{Interval}
use Rattle.sk_interval.specs.Operations.{bounded, length_of, normal_of}
use Rattle.sk_interval.proofs.FinerSums.{bounded-cases}
use Rattle.sk_steps.specs.declared.BoxOf.{BoxOf}
use Rattle.sk_steps.specs.declared.What.{What}
use Rattle.sk_steps.specs.declared.What.TheVariants.{X, Y, A, B, C}
use Rattle.sk_steps.specs.declared.Given.{Given}
use Rattle.sk_steps.specs.Expressions.{Expression, number, micrometres, signed, length_box, normal_box, at, then, value}
use Rattle.sk_steps.specs.Quantities.{named, then_list, evaluate_after, evaluate}
use Rattle.sk_steps.specs.Boxes.{zero as nought, kind_of, numbers, from_end, last_box, box_of}
use Rattle.sk_steps.specs.Constructions.{point_by_points, line_by_points, point_by_line, line_by_line, point_by_lines}
use Rattle.sk_steps.specs.ThirdElement.{construction, inputs, third_element}
use Rattle.sk_steps.specs.Leaves.{part, by_sign, opposite, frame, framed, frame_of, leaf}
use Rattle.sk_steps.specs.declared.Motion.{Motion}
use Rattle.sk_steps.specs.Carried.{carried_point, carried_line, carried_box, motion_numbers, carried}
use Rattle.sk_place.specs.Rounding.{IsWithin, IsBoundedBox}

-- ---- one quantity

bounded_ok : (k F : ℕ) (x y : Interval) → bounded k F x ≡ Ok y → IsWithin k F y
bounded_ok k F x y is = elim (bounded-cases k F x) [
  | inl h ↦ (let same : Ok x ≡ Ok y = sym h.2 ∙ is in let x_is : x ≡ y = cc in subst (λ (z : Interval). IsWithin k F z) x_is (h.0, h.1))
  | inr h ↦ (let never : Err Range ≡ Ok y = sym h ∙ is in absurd (cc))
]

then_value : (r : Result Interval Cause) (f : Interval → Result Interval Cause) (y : Interval) → then r f ≡ Ok y → (x : Interval) × (f x ≡ Ok y)
then_value (Ok x) f y is = (x, is)
then_value (Err c) f y is = cc

length_within : (F : ℕ) (is found : List Interval) (e : Expression) (x : Interval) → value F is found (length_box e) ≡ Ok x → IsWithin 40 F x
length_within F is found e x h = (let inner = then_value (value F is found e) (length_of F) x h in bounded_ok 40 F inner.0 x inner.1)

pub normal_within : (F : ℕ) (is found : List Interval) (e : Expression) (x : Interval) → value F is found (normal_box e) ≡ Ok x → IsWithin 1 F x
normal_within F is found e x h = (let inner = then_value (value F is found e) (normal_of F) x h in bounded_ok 1 F inner.0 x inner.1)

-- ---- a list of quantities

named_ok : {N : Type 0} (n : N) (r : Result Interval Cause) (x : Interval) → named n r ≡ Ok x → r ≡ Ok x
named_ok n (Ok y) x is = cc
named_ok n (Err c) x is = cc

list_ok : {N : Type 0} (r : Result Interval (N × Cause)) (f : Interval → Result (List Interval) (N × Cause)) (all : List Interval) → then_list r f ≡ Ok all → (x : Interval) × (r ≡ Ok x) × (f x ≡ Ok all)
list_ok (Ok x) f all is = (x, refl, is)
list_ok (Err c) f all is = cc

-- the first quantity, and the rest after it
pub step_ok : {N : Type 0} (F : ℕ) (is found : List Interval) (q : N × Expression) (qs : List (N × Expression)) (all : List Interval) → evaluate_after found F is (q ∷ qs) ≡ Ok all
    → (x : Interval) × (value F is found q.1 ≡ Ok x) × (evaluate_after (found ++ x ∷ []) F is qs ≡ Ok all)
step_ok F is found q qs all h =
    let first = list_ok (named q.0 (value F is found q.1)) (λ x. evaluate_after (found ++ x ∷ []) F is qs) all h in
    (first.0, named_ok q.0 (value F is found q.1) first.0 first.1, first.2)

front_ok : {N : Type 0} (F : ℕ) (is found : List Interval) (front rest : List (N × Expression)) (all : List Interval) → evaluate_after found F is (front ++ rest) ≡ Ok all
    → (mid : List Interval) × (evaluate_after mid F is rest ≡ Ok all)
front_ok F is found [] rest all h = (found, h)
front_ok F is found (q ∷ front) rest all h = (let one = step_ok F is found q (front ++ rest) all h in front_ok F is (found ++ one.0 ∷ []) front rest all one.2)

pub end_inside : {N : Type 0} (found all : List Interval) → (let done : Result (List Interval) (N × Cause) = Ok found in done ≡ Ok all) → found ≡ all
end_inside found all is = cc

-- the last, the last but one and the last but two
last_is : (front : List Interval) (x : Interval) → from_end (front ++ x ∷ []) 1 ≡ x
last_is front x =
    let size : length (front ++ x ∷ []) - 1 ≡ length front = omega (arith, length-append front (x ∷ [])) in
    ap (λ (i : ℕ). at (front ++ x ∷ []) i) size ∙ get_or-append_seam front x [] nought

second_is : (front : List Interval) (x y : Interval) → from_end (front ++ x ∷ y ∷ []) 2 ≡ x
second_is front x y =
    let size : length (front ++ x ∷ y ∷ []) - 2 ≡ length front = omega (arith, length-append front (x ∷ y ∷ [])) in
    ap (λ (i : ℕ). at (front ++ x ∷ y ∷ []) i) size ∙ get_or-append_seam front x (y ∷ []) nought

third_is : (front : List Interval) (x y z : Interval) → from_end (front ++ x ∷ y ∷ z ∷ []) 3 ≡ x
third_is front x y z =
    let size : length (front ++ x ∷ y ∷ z ∷ []) - 3 ≡ length front = omega (arith, length-append front (x ∷ y ∷ z ∷ [])) in
    ap (λ (i : ℕ). at (front ++ x ∷ y ∷ z ∷ []) i) size ∙ get_or-append_seam front x (y ∷ z ∷ []) nought

-- the list ends in the numbers of a point, or of a line
record EndsInPoint (qs : List (What × Expression)) : Type 0 where
  front : List (What × Expression)
  x : What × Expression
  y : What × Expression
  are : qs ≡ front ++ (x.0, length_box x.1) ∷ (y.0, length_box y.1) ∷ []

record EndsInLine (qs : List (What × Expression)) : Type 0 where
  front : List (What × Expression)
  a : What × Expression
  b : What × Expression
  c : What × Expression
  are : qs ≡ front ++ (a.0, normal_box a.1) ∷ (b.0, normal_box b.1) ∷ (c.0, length_box c.1) ∷ []

module _ (G : Type 0) (F : ℕ) (is all : List Interval) where
  point_within : (qs : List (What × Expression)) → EndsInPoint qs → evaluate F is qs ≡ Ok all → IsBoundedBox {G = G} F (last_box Kind.Point all)
  point_within qs ends h =
      let cut = front_ok F is [] ends.front ((ends.x.0, length_box ends.x.1) ∷ (ends.y.0, length_box ends.y.1) ∷ []) all (subst (λ (ps : List (What × Expression)). evaluate F is ps ≡ Ok all) ends.are h) in
      let one = step_ok F is cut.0 (ends.x.0, length_box ends.x.1) ((ends.y.0, length_box ends.y.1) ∷ []) all cut.1 in
      let two = step_ok F is (cut.0 ++ one.0 ∷ []) (ends.y.0, length_box ends.y.1) [] all one.2 in
      let all_is : (cut.0 ++ one.0 ∷ []) ++ two.0 ∷ [] ≡ all = end_inside {N = What} ((cut.0 ++ one.0 ∷ []) ++ two.0 ∷ []) all two.2 in
      let flat : cut.0 ++ one.0 ∷ two.0 ∷ [] ≡ all = sym (append_assoc cut.0 (one.0 ∷ []) (two.0 ∷ [])) ∙ all_is in
      let x_is : one.0 ≡ from_end all 2 = sym (second_is cut.0 one.0 two.0) ∙ ap (λ (xs : List Interval). from_end xs 2) flat in
      let y_is : two.0 ≡ from_end all 1 = sym (last_is (cut.0 ++ one.0 ∷ []) two.0) ∙ ap (λ (xs : List Interval). from_end xs 1) all_is in (
        subst (λ (z : Interval). IsWithin 40 F z) x_is (length_within F is cut.0 ends.x.1 one.0 one.1),
        subst (λ (z : Interval). IsWithin 40 F z) y_is (length_within F is (cut.0 ++ one.0 ∷ []) ends.y.1 two.0 two.1),
      )

  line_within : (qs : List (What × Expression)) → EndsInLine qs → evaluate F is qs ≡ Ok all → IsBoundedBox {G = G} F (last_box Kind.Line all)
  line_within qs ends h =
      let cut = front_ok F is [] ends.front ((ends.a.0, normal_box ends.a.1) ∷ (ends.b.0, normal_box ends.b.1) ∷ (ends.c.0, length_box ends.c.1) ∷ []) all (subst (λ (ps : List (What × Expression)). evaluate F is ps ≡ Ok all) ends.are h) in
      let one = step_ok F is cut.0 (ends.a.0, normal_box ends.a.1) ((ends.b.0, normal_box ends.b.1) ∷ (ends.c.0, length_box ends.c.1) ∷ []) all cut.1 in
      let two = step_ok F is (cut.0 ++ one.0 ∷ []) (ends.b.0, normal_box ends.b.1) ((ends.c.0, length_box ends.c.1) ∷ []) all one.2 in
      let three = step_ok F is ((cut.0 ++ one.0 ∷ []) ++ two.0 ∷ []) (ends.c.0, length_box ends.c.1) [] all two.2 in
      let all_is : ((cut.0 ++ one.0 ∷ []) ++ two.0 ∷ []) ++ three.0 ∷ [] ≡ all = end_inside {N = What} (((cut.0 ++ one.0 ∷ []) ++ two.0 ∷ []) ++ three.0 ∷ []) all three.2 in
      let half : (cut.0 ++ one.0 ∷ []) ++ two.0 ∷ three.0 ∷ [] ≡ all = sym (append_assoc (cut.0 ++ one.0 ∷ []) (two.0 ∷ []) (three.0 ∷ [])) ∙ all_is in
      let flat : cut.0 ++ one.0 ∷ two.0 ∷ three.0 ∷ [] ≡ all = sym (append_assoc cut.0 (one.0 ∷ []) (two.0 ∷ three.0 ∷ [])) ∙ half in
      let a_is : one.0 ≡ from_end all 3 = sym (third_is cut.0 one.0 two.0 three.0) ∙ ap (λ (xs : List Interval). from_end xs 3) flat in
      let b_is : two.0 ≡ from_end all 2 = sym (second_is (cut.0 ++ one.0 ∷ []) two.0 three.0) ∙ ap (λ (xs : List Interval). from_end xs 2) half in
      let c_is : three.0 ≡ from_end all 1 = sym (last_is ((cut.0 ++ one.0 ∷ []) ++ two.0 ∷ []) three.0) ∙ ap (λ (xs : List Interval). from_end xs 1) all_is in (
        subst (λ (z : Interval). IsWithin 1 F z) a_is (normal_within F is cut.0 ends.a.1 one.0 one.1),
        subst (λ (z : Interval). IsWithin 1 F z) b_is (normal_within F is (cut.0 ++ one.0 ∷ []) ends.b.1 two.0 two.1),
        subst (λ (z : Interval). IsWithin 40 F z) c_is (length_within F is ((cut.0 ++ one.0 ∷ []) ++ two.0 ∷ []) ends.c.1 three.0 three.1),
      )

-- ---- the rows

points_point : (root : Sign) → EndsInPoint (point_by_points root)
unfolding point_by_points
points_point root = record { front = take 8 (point_by_points root); x = _; y = _; are = refl }

points_line : (root : Sign) → EndsInLine (line_by_points root)
unfolding line_by_points
points_line root = record { front = take 8 (line_by_points root); a = _; b = _; c = _; are = refl }

line_point : (root : Sign) → EndsInPoint (point_by_line root)
unfolding point_by_line
line_point root = record { front = take 4 (point_by_line root); x = _; y = _; are = refl }

line_line : EndsInLine line_by_line
unfolding line_by_line
line_line = record { front = take 3 line_by_line; a = _; b = _; c = _; are = refl }

lines_point : EndsInPoint point_by_lines
unfolding point_by_lines
lines_point = record { front = take 5 point_by_lines; x = _; y = _; are = refl }

point_carried : EndsInPoint carried_point
unfolding carried_point
point_carried = record { front = []; x = _; y = _; are = refl }

line_carried : EndsInLine carried_line
unfolding carried_line
line_carried = record { front = []; a = _; b = _; c = _; are = refl }

-- ---- boxes

box_ok : (G N : Type 0) (kind : Kind) (r : Result (List Interval) N) (b : BoxOf G) → box_of kind r ≡ Ok b → (all : List Interval) × (r ≡ Ok all) × (last_box kind all ≡ b)
box_ok G N kind (Ok all) b h = (all, refl, cc)
box_ok G N kind (Err f) b h = cc

nought_within : (k F : ℕ) → IsWithin k F nought
nought_within k F = (omega arith, omega arith)

none_within : (G : Type 0) (F : ℕ) (kind : Kind) → IsBoundedBox {G = G} F (last_box kind [])
none_within G F Kind.Point = (nought_within 40 F, nought_within 40 F)
none_within G F Kind.Line = (nought_within 1 F, nought_within 1 F, nought_within 40 F)

no_row : (G : Type 0) (F : ℕ) (kind : Kind) (all : List Interval) → (let done : Result (List Interval) (What × Cause) = Ok [] in done ≡ Ok all) → IsBoundedBox {G = G} F (last_box kind all)
no_row G F kind all h = (let none : [] ≡ all = end_inside {N = What} [] all h in subst (λ (xs : List Interval). IsBoundedBox {G = G} F (last_box kind xs)) none (none_within G F kind))

rows_within : (G : Type 0) (F : ℕ) (is all : List Interval) (root : Sign) (u v w : Kind) → evaluate F is (construction root u v w) ≡ Ok all → IsBoundedBox {G = G} F (last_box w all)
rows_within G F is all root Kind.Point Kind.Point Kind.Point h = point_within G F is all (point_by_points root) (points_point root) h
rows_within G F is all root Kind.Point Kind.Point Kind.Line h = line_within G F is all (line_by_points root) (points_line root) h
rows_within G F is all root Kind.Point Kind.Line Kind.Point h = point_within G F is all (point_by_line root) (line_point root) h
rows_within G F is all root Kind.Point Kind.Line Kind.Line h = line_within G F is all line_by_line line_line h
rows_within G F is all root Kind.Line Kind.Line Kind.Point h = point_within G F is all point_by_lines lines_point h
rows_within G F is all root Kind.Line Kind.Line Kind.Line h = no_row G F Kind.Line all h
rows_within G F is all root Kind.Line Kind.Point Kind.Point h = no_row G F Kind.Point all h
rows_within G F is all root Kind.Line Kind.Point Kind.Line h = no_row G F Kind.Line all h

pub third_bounded : {G : Type 0} (F : ℕ) (g : Given G) (w : BoxOf G) → third_element F g ≡ Ok w → IsBoundedBox F w
third_bounded {G} F g w h =
    let quantities : List (What × Expression) = construction g.root (kind_of g.u) (kind_of g.v) (kind_of g.wx) in
    let inner = box_ok G (What × Cause) (kind_of g.wx) (evaluate F (inputs g) quantities) w h in
    subst (λ (b : BoxOf G). IsBoundedBox F b) inner.2 (rows_within G F (inputs g) inner.0 g.root (kind_of g.u) (kind_of g.v) (kind_of g.wx) inner.1)

moves_within : (G : Type 0) (F : ℕ) (is all : List Interval) (kind : Kind) → evaluate F is (carried_box kind) ≡ Ok all → IsBoundedBox {G = G} F (last_box kind all)
moves_within G F is all Kind.Point h = point_within G F is all carried_point point_carried h
moves_within G F is all Kind.Line h = line_within G F is all carried_line line_carried h

pub carried_bounded : {G : Type 0} (F : ℕ) (m : Motion G) (b c : BoxOf G) → carried F m b ≡ Ok c → IsBoundedBox F c
carried_bounded {G} F m b c h =
    let inner = box_ok G (What × Cause) (kind_of b) (evaluate F (motion_numbers m ++ numbers b) (carried_box (kind_of b))) c h in
    subst (λ (d : BoxOf G). IsBoundedBox F d) inner.2 (moves_within G F (motion_numbers m ++ numbers b) inner.0 (kind_of b) inner.1)

-- ---- frames

points_frame : (F : ℕ) (n : What × What × What × What) (a b c d : Expression) (all : List Interval) → evaluate F [] ((n.0, length_box a) ∷ (n.1, length_box b) ∷ (n.2, length_box c) ∷ (n.3, length_box d) ∷ []) ≡ Ok all
    → IsWithin 40 F (at all 0) × IsWithin 40 F (at all 1) × IsWithin 40 F (at all 2) × IsWithin 40 F (at all 3)
points_frame F n a b c d all h =
    let q_a = step_ok F [] [] (n.0, length_box a) ((n.1, length_box b) ∷ (n.2, length_box c) ∷ (n.3, length_box d) ∷ []) all h in
    let q_b = step_ok F [] (q_a.0 ∷ []) (n.1, length_box b) ((n.2, length_box c) ∷ (n.3, length_box d) ∷ []) all q_a.2 in
    let q_c = step_ok F [] (q_a.0 ∷ q_b.0 ∷ []) (n.2, length_box c) ((n.3, length_box d) ∷ []) all q_b.2 in
    let q_d = step_ok F [] (q_a.0 ∷ q_b.0 ∷ q_c.0 ∷ []) (n.3, length_box d) [] all q_c.2 in
    let all_is : q_a.0 ∷ q_b.0 ∷ q_c.0 ∷ q_d.0 ∷ [] ≡ all = end_inside {N = What} (q_a.0 ∷ q_b.0 ∷ q_c.0 ∷ q_d.0 ∷ []) all q_d.2 in
    subst (λ (xs : List Interval). IsWithin 40 F (at xs 0) × IsWithin 40 F (at xs 1) × IsWithin 40 F (at xs 2) × IsWithin 40 F (at xs 3)) all_is (
      length_within F [] [] a q_a.0 q_a.1,
      length_within F [] (q_a.0 ∷ []) b q_b.0 q_b.1,
      length_within F [] (q_a.0 ∷ q_b.0 ∷ []) c q_c.0 q_c.1,
      length_within F [] (q_a.0 ∷ q_b.0 ∷ q_c.0 ∷ []) d q_d.0 q_d.1,
    )

mixed_frame : (F : ℕ) (n : What × What × What × What × What) (a b c d e : Expression) (all : List Interval) → evaluate F [] ((n.0, length_box a) ∷ (n.1, length_box b) ∷ (n.2, normal_box c) ∷ (n.3, normal_box d) ∷ (n.4, length_box e) ∷ []) ≡ Ok all
    → IsWithin 40 F (at all 0) × IsWithin 40 F (at all 1) × IsWithin 1 F (at all 2) × IsWithin 1 F (at all 3) × IsWithin 40 F (at all 4)
mixed_frame F n a b c d e all h =
    let q_a = step_ok F [] [] (n.0, length_box a) ((n.1, length_box b) ∷ (n.2, normal_box c) ∷ (n.3, normal_box d) ∷ (n.4, length_box e) ∷ []) all h in
    let q_b = step_ok F [] (q_a.0 ∷ []) (n.1, length_box b) ((n.2, normal_box c) ∷ (n.3, normal_box d) ∷ (n.4, length_box e) ∷ []) all q_a.2 in
    let q_c = step_ok F [] (q_a.0 ∷ q_b.0 ∷ []) (n.2, normal_box c) ((n.3, normal_box d) ∷ (n.4, length_box e) ∷ []) all q_b.2 in
    let q_d = step_ok F [] (q_a.0 ∷ q_b.0 ∷ q_c.0 ∷ []) (n.3, normal_box d) ((n.4, length_box e) ∷ []) all q_c.2 in
    let q_e = step_ok F [] (q_a.0 ∷ q_b.0 ∷ q_c.0 ∷ q_d.0 ∷ []) (n.4, length_box e) [] all q_d.2 in
    let all_is : q_a.0 ∷ q_b.0 ∷ q_c.0 ∷ q_d.0 ∷ q_e.0 ∷ [] ≡ all = end_inside {N = What} (q_a.0 ∷ q_b.0 ∷ q_c.0 ∷ q_d.0 ∷ q_e.0 ∷ []) all q_e.2 in
    subst (λ (xs : List Interval). IsWithin 40 F (at xs 0) × IsWithin 40 F (at xs 1) × IsWithin 1 F (at xs 2) × IsWithin 1 F (at xs 3) × IsWithin 40 F (at xs 4)) all_is (
      length_within F [] [] a q_a.0 q_a.1,
      length_within F [] (q_a.0 ∷ []) b q_b.0 q_b.1,
      normal_within F [] (q_a.0 ∷ q_b.0 ∷ []) c q_c.0 q_c.1,
      normal_within F [] (q_a.0 ∷ q_b.0 ∷ q_c.0 ∷ []) d q_d.0 q_d.1,
      length_within F [] (q_a.0 ∷ q_b.0 ∷ q_c.0 ∷ q_d.0 ∷ []) e q_e.0 q_e.1,
    )

lines_frame : (F : ℕ) (n : What × What × What × What × What × What) (a b c d e f : Expression) (all : List Interval) → evaluate F [] ((n.0, normal_box a) ∷ (n.1, normal_box b) ∷ (n.2, length_box c) ∷ (n.3, normal_box d) ∷ (n.4, normal_box e) ∷ (n.5, length_box f) ∷ []) ≡ Ok all
    → IsWithin 1 F (at all 0) × IsWithin 1 F (at all 1) × IsWithin 40 F (at all 2) × IsWithin 1 F (at all 3) × IsWithin 1 F (at all 4) × IsWithin 40 F (at all 5)
lines_frame F n a b c d e f all h =
    let q_a = step_ok F [] [] (n.0, normal_box a) ((n.1, normal_box b) ∷ (n.2, length_box c) ∷ (n.3, normal_box d) ∷ (n.4, normal_box e) ∷ (n.5, length_box f) ∷ []) all h in
    let q_b = step_ok F [] (q_a.0 ∷ []) (n.1, normal_box b) ((n.2, length_box c) ∷ (n.3, normal_box d) ∷ (n.4, normal_box e) ∷ (n.5, length_box f) ∷ []) all q_a.2 in
    let q_c = step_ok F [] (q_a.0 ∷ q_b.0 ∷ []) (n.2, length_box c) ((n.3, normal_box d) ∷ (n.4, normal_box e) ∷ (n.5, length_box f) ∷ []) all q_b.2 in
    let q_d = step_ok F [] (q_a.0 ∷ q_b.0 ∷ q_c.0 ∷ []) (n.3, normal_box d) ((n.4, normal_box e) ∷ (n.5, length_box f) ∷ []) all q_c.2 in
    let q_e = step_ok F [] (q_a.0 ∷ q_b.0 ∷ q_c.0 ∷ q_d.0 ∷ []) (n.4, normal_box e) ((n.5, length_box f) ∷ []) all q_d.2 in
    let q_f = step_ok F [] (q_a.0 ∷ q_b.0 ∷ q_c.0 ∷ q_d.0 ∷ q_e.0 ∷ []) (n.5, length_box f) [] all q_e.2 in
    let all_is : q_a.0 ∷ q_b.0 ∷ q_c.0 ∷ q_d.0 ∷ q_e.0 ∷ q_f.0 ∷ [] ≡ all = end_inside {N = What} (q_a.0 ∷ q_b.0 ∷ q_c.0 ∷ q_d.0 ∷ q_e.0 ∷ q_f.0 ∷ []) all q_f.2 in
    subst (λ (xs : List Interval). IsWithin 1 F (at xs 0) × IsWithin 1 F (at xs 1) × IsWithin 40 F (at xs 2) × IsWithin 1 F (at xs 3) × IsWithin 1 F (at xs 4) × IsWithin 40 F (at xs 5)) all_is (
      normal_within F [] [] a q_a.0 q_a.1,
      normal_within F [] (q_a.0 ∷ []) b q_b.0 q_b.1,
      length_within F [] (q_a.0 ∷ q_b.0 ∷ []) c q_c.0 q_c.1,
      normal_within F [] (q_a.0 ∷ q_b.0 ∷ q_c.0 ∷ []) d q_d.0 q_d.1,
      normal_within F [] (q_a.0 ∷ q_b.0 ∷ q_c.0 ∷ q_d.0 ∷ []) e q_e.0 q_e.1,
      length_within F [] (q_a.0 ∷ q_b.0 ∷ q_c.0 ∷ q_d.0 ∷ q_e.0 ∷ []) f q_f.0 q_f.1,
    )

frames_within : (G : Type 0) (F : ℕ) (m : Measure) (all : List Interval) → evaluate F [] (frame m) ≡ Ok all → IsBoundedBox {G = G} F (framed m all).0 × IsBoundedBox {G = G} F (framed m all).1
frames_within G F (PointPoint far) all h =
    let r = points_frame F (X, Y, X, Y) (number (pos 0)) (number (pos 0)) (micrometres far.0) (number (pos 0)) all h in
    ((r.0, r.1), (r.2, r.3))
frames_within G F (PointLine far side) all h =
    let r = mixed_frame F (X, Y, A, B, C) (number (pos 0)) (signed side (micrometres far.0)) (number (pos 0)) (number (pos 1)) (number (pos 0)) all h in
    ((r.0, r.1), (r.2, r.3, r.4))
frames_within G F (LineLine ratio sense) all h =
    let r = lines_frame F (A, B, C, A, B, C) (number (pos 0)) (number (pos 1)) (number (pos 0)) (part (by_sign (opposite sense) ratio.p) ratio) (part (by_sign sense ratio.q) ratio) (number (pos 0)) all h in
    ((r.0, r.1, r.2), (r.3, r.4, r.5))

frame_ok : (G N : Type 0) (m : Measure) (r : Result (List Interval) N) (two : BoxOf G × BoxOf G) → frame_of m r ≡ Ok two → (all : List Interval) × (r ≡ Ok all) × (framed m all ≡ two)
frame_ok G N m (Ok all) two h = (all, refl, cc)
frame_ok G N m (Err f) two h = cc

pub leaf_bounded : {G : Type 0} (F : ℕ) (m : Measure) (two : BoxOf G × BoxOf G) → leaf F m ≡ Ok two → IsBoundedBox F two.0 × IsBoundedBox F two.1
leaf_bounded {G} F m two h =
    let inner = frame_ok G (What × Cause) m (evaluate F [] (frame m)) two h in
    subst (λ (t : BoxOf G × BoxOf G). IsBoundedBox F t.0 × IsBoundedBox F t.1) inner.2 (frames_within G F m inner.0 inner.1)
