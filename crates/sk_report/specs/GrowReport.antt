-- The report on a sketch that was made and placed.
use Rattle.std.specs.Prelude.{ℕ, ℤ, pos, ◌+ℤ◌, List, ◌∷◌, ◌++◌, fold, length, codes}
use Rattle.std.specs.Fmt.{decimal}
use Rattle.sk_base.specs.declared.At.{At}
use Rattle.sk_base.specs.declared.Placed.{Placed}
use Rattle.sk_base.specs.declared.Sketch.{Sketch}
use Rattle.sk_base.specs.declared.Spot.{Spot}
use Rattle.sk_base.specs.Spelling.{whole_text}
use Rattle.sk_tree.specs.declared.Plan.{Plan}
use Rattle.sk_tolerance.specs.declared.Tolerance.{Tolerance}
use Rattle.sk_report.specs.SolveReport.{tolerance_lines}

-- where a point or a centre lies along x; a line adds nothing
abbrev pub x_of : At → ℤ
x_of (At.Point x y) = x
x_of (At.Line a b c) = pos 0

-- and along y
abbrev pub y_of : At → ℤ
y_of (At.Point x y) = y
y_of (At.Line a b c) = pos 0

-- the sums over all points and centres
abbrev pub x_sum : List Spot → ℤ
x_sum spots = fold (λ sum (spot : Spot). sum +ℤ x_of spot.at) (pos 0) spots

abbrev pub y_sum : List Spot → ℤ
y_sum spots = fold (λ sum (spot : Spot). sum +ℤ y_of spot.at) (pos 0) spots

-- the numbers of elements, constraints and steps; the verdict is well
abbrev pub grow_counts : Sketch → Plan → List ℕ
grow_counts s p =
    codes "grow " ++ (decimal (length s.elements) ++ (codes "\nelements " ++ (decimal (length s.elements) ++ (codes "\nconstraints "
    ++ (decimal (length s.constraints) ++ (codes "\nverdict well\nsteps " ++ (decimal (length p.steps) ++ codes "\n")))))))

-- a sum, on a line of its own
abbrev pub sum_line : List ℕ → ℤ → List ℕ
sum_line axis sum = ((codes "sum " ++ axis) ++ 32 ∷ whole_text sum) ++ codes " nm\n"

-- the report: the counts, the two sums, and the tolerance
abbrev pub grow_report : Sketch → Plan → Placed → Tolerance → List ℕ
grow_report s p at t = ((grow_counts s p ++ sum_line (codes "x") (x_sum at.spots)) ++ sum_line (codes "y") (y_sum at.spots)) ++ tolerance_lines s t
