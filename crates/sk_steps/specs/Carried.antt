-- The box of an element, carried by a motion. The motion's six numbers are given, as many as two boxes have, and then the
-- box.
use Rattle.std.specs.Prelude.{ℕ, List, [], ◌∷◌, ◌++◌, Result}
use Rattle.sk_base.specs.declared.Kind.{Kind}
use Rattle.sk_base.specs.declared.Kind.TheVariants.{Point, Line}
use Rattle.sk_interval.specs.declared.Cause.{Cause}
use Rattle.sk_interval.specs.Interval.{Interval}
use Rattle.sk_steps.specs.declared.boxes.BoxOf.{BoxOf}
use Rattle.sk_steps.specs.declared.what.What.{What}
use Rattle.sk_steps.specs.declared.what.What.TheVariants.{X, Y, A, B, C}
use Rattle.sk_steps.specs.Expressions.{Expression, input, earlier, ◌⊕◌, ◌⊖◌, ◌⊗◌, length_box, normal_box}
use Rattle.sk_steps.specs.Quantities.{evaluate}
use Rattle.sk_steps.specs.PointsAndLines.{point, line}
use Rattle.sk_steps.specs.Boxes.{kind_of, numbers, box_of}
use Rattle.sk_steps.specs.declared.frames.Motion.{Motion}

abbrev pub motion_numbers : {G : Type 0} → Motion G → List Interval
motion_numbers m = m.cos ∷ m.sin ∷ m.fx ∷ m.fy ∷ m.tx ∷ m.ty ∷ []

-- a point p'
unfoldable pub carried_point : List (What × Expression)
carried_point =
    let cos = input 0 in let sin = input 1 in
    let fx = input 2 in let fy = input 3 in let tx = input 4 in let ty = input 5 in
    let p' = point 2 in
    (X, length_box ((tx ⊕ cos ⊗ (p'.x ⊖ fx)) ⊖ sin ⊗ (p'.y ⊖ fy)))
    ∷ (Y, length_box ((ty ⊕ sin ⊗ (p'.x ⊖ fx)) ⊕ cos ⊗ (p'.y ⊖ fy)))
    ∷ []

-- a line l'
unfoldable pub carried_line : List (What × Expression)
carried_line =
    let cos = input 0 in let sin = input 1 in
    let fx = input 2 in let fy = input 3 in let tx = input 4 in let ty = input 5 in
    let l' = line 2 in
    let a = earlier 0 in let b = earlier 1 in
    (A, normal_box (cos ⊗ l'.a ⊖ sin ⊗ l'.b))
    ∷ (B, normal_box (sin ⊗ l'.a ⊕ cos ⊗ l'.b))
    ∷ (C, length_box ((a ⊗ tx ⊕ b ⊗ ty) ⊕ (l'.c ⊖ (l'.a ⊗ fx ⊕ l'.b ⊗ fy))))
    ∷ []

abbrev pub carried_box : Kind → List (What × Expression)
carried_box Point = carried_point
carried_box Line = carried_line

-- the box, carried, or the first quantity that has a cause, with that
abbrev pub carried : {G : Type 0} → ℕ → Motion G → BoxOf G → Result (BoxOf G) (What × Cause)
carried F m b = box_of (kind_of b) (evaluate F (motion_numbers m ++ numbers b) (carried_box (kind_of b)))
