-- Boxes that are settled: a line's normal is brought to length 1, and then each number to its midpoint.
use Rattle.std.specs.Prelude.{ℕ, List, [], ◌∷◌, Result, Ok, Err}
use Rattle.sk_interval.specs.declared.Cause.{Cause}
use Rattle.sk_interval.specs.Interval.{Interval}
use Rattle.sk_interval.specs.Operations.{middle}
use Rattle.sk_steps.specs.Expressions.{Expression, input, earlier, ◌⊕◌, ◌⊗◌, ◌⊘◌, square_root, normal_box}
use Rattle.sk_steps.specs.Quantities.{evaluate}
use Rattle.sk_steps.specs.Boxes.{from_end}
use Rattle.sk_steps.specs.declared.what.What.{What}
use Rattle.sk_steps.specs.declared.what.What.TheVariants.{Size, A, B}
use Rattle.sk_steps.specs.declared.boxes.BoxOf.{BoxOf}
use Rattle.sk_steps.specs.declared.boxes.BoxOf.TheVariants.{Point, Line}

-- a normal, which is given by its two parts, at length 1
unfoldable pub unit_normal : List (What × Expression)
unit_normal =
    let a = input 0 in let b = input 1 in
    let size = earlier 0 in
    (Size, square_root (a ⊗ a ⊕ b ⊗ b))
    ∷ (A, normal_box (a ⊘ size))
    ∷ (B, normal_box (b ⊘ size))
    ∷ []

-- a line by midpoints: of its normal's parts, which are the last quantities, and of c
abbrev pub settled_line : {G N : Type 0} → Interval → Result (List Interval) N → Result (BoxOf G) N
settled_line c (Ok found) = Ok (Line (middle (from_end found 2)) (middle (from_end found 1)) (middle c))
settled_line c (Err fault) = Err fault

-- the box, settled, or the first quantity that has a cause, with that
abbrev pub settled : {G : Type 0} → ℕ → BoxOf G → Result (BoxOf G) (What × Cause)
settled F (Point x y) = Ok (Point (middle x) (middle y))
settled F (Line a b c) = settled_line c (evaluate F (a ∷ b ∷ []) unit_normal)
