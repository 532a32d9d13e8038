-- The report on placed elements.
use Rattle.std.specs.Prelude.{ℕ, ℤ, pos, ◌*ℤ◌, List, [], ◌∷◌, ◌++◌, Option, None, Some, length, codes}
use Rattle.std.specs.List.{flat_map}
use Rattle.std.specs.Fmt.{decimal}
use Rattle.sk_base.specs.declared.At.{At}
use Rattle.sk_base.specs.declared.ConId.{ConId}
use Rattle.sk_base.specs.declared.Element.{Element}
use Rattle.sk_base.specs.declared.Placed.{Placed}
use Rattle.sk_base.specs.declared.Shape.{Shape}
use Rattle.sk_base.specs.declared.Sketch.{Sketch}
use Rattle.sk_base.specs.Places.{place_of}
use Rattle.sk_base.specs.ElementNames.{name_of}
use Rattle.sk_base.specs.Spelling.{whole_text}
use Rattle.sk_tree.specs.declared.Plan.{Plan}
use Rattle.sk_tolerance.specs.declared.Spotted.{Spotted}
use Rattle.sk_tolerance.specs.declared.Tolerance.{Tolerance}

-- whole numbers, each with a space before it
abbrev pub numbers_text : List ℤ → List ℕ
numbers_text numbers = flat_map (λ n. 32 ∷ whole_text n) numbers

abbrev pub point_line : List ℕ → ℤ → ℤ → List ℕ
point_line name x y = ((codes "point " ++ name) ++ numbers_text (x ∷ y ∷ [])) ++ codes "\n"

-- the radius is drawn in micrometres and printed in nanometres
abbrev pub circle_line : List ℕ → ℤ → ℤ → ℤ → List ℕ
circle_line name x y r = (((codes "circle " ++ name) ++ numbers_text (x ∷ y ∷ [])) ++ 32 ∷ whole_text (r *ℤ pos 1000)) ++ codes "\n"

abbrev pub line_line : List ℕ → ℤ → ℤ → ℤ → List ℕ
line_line name a b c = ((codes "line " ++ name) ++ numbers_text (a ∷ b ∷ c ∷ [])) ++ codes "\n"

-- a placed point is that of a point or the centre of a circle
abbrev pub centre_line : List ℕ → Shape → ℤ → ℤ → List ℕ
centre_line name (Shape.Point u v) x y = point_line name x y
centre_line name (Shape.Line u v w z) x y = point_line name x y
centre_line name (Shape.Circle u v r) x y = circle_line name x y r.0

abbrev pub lying_line : List ℕ → Shape → At → List ℕ
lying_line name shape (At.Point x y) = centre_line name shape x y
lying_line name shape (At.Line a b c) = line_line name a b c

-- a line for an element that is placed
abbrev pub element_line : Element → Option At → List ℕ
element_line element None = []
element_line element (Some at) = lying_line element.label element.shape at

abbrev pub element_lines : Placed → List Element → List ℕ
element_lines p elements = flat_map (λ (element : Element). element_line element (place_of p element.number)) elements

-- a line by its name, or a constraint by its number
abbrev pub spotted_words : Sketch → Spotted → List ℕ
spotted_words s (Spotted.Con k) = 99 ∷ decimal k.0
spotted_words s (Spotted.Line e) = codes "line " ++ name_of s e

abbrev pub constraint_or_none : Option ConId → List ℕ
constraint_or_none None = codes "none"
constraint_or_none (Some k) = 99 ∷ decimal k.0

abbrev pub spotted_or_none : Sketch → Option Spotted → List ℕ
spotted_or_none s None = codes "none"
spotted_or_none s (Some at) = spotted_words s at

abbrev pub length_line : Tolerance → List ℕ
length_line t = ((codes "length tolerance " ++ (decimal t.t ++ codes " nm at ")) ++ constraint_or_none t.worst_t) ++ codes "\n"

abbrev pub angle_line : Sketch → Tolerance → List ℕ
angle_line s t = ((codes "angle tolerance " ++ (decimal t.w ++ codes " ppb at ")) ++ spotted_or_none s t.worst_w) ++ codes "\n"

-- the two lines that tell the tolerance
abbrev pub tolerance_lines : Sketch → Tolerance → List ℕ
tolerance_lines s t = length_line t ++ angle_line s t

-- the number of steps, and the binary digits of the grid, a line each
abbrev pub solve_counts : Plan → ℕ → List ℕ
solve_counts p bits = codes "steps " ++ (decimal (length p.steps) ++ (codes "\nbits " ++ (decimal bits ++ codes "\n")))

-- a line for each element, and the tolerance
abbrev pub places_report : Sketch → Placed → Tolerance → List ℕ
places_report s at t = element_lines at s.elements ++ tolerance_lines s t

-- the lines of the report behind its verdict: the number of steps, the grid, where each element lies, and the tolerance
abbrev pub shape_report : Sketch → Plan → ℕ → Placed → Tolerance → List ℕ
shape_report s p bits at t = solve_counts p bits ++ places_report s at t

-- the report: the verdict, the number of steps, the grid, where each element lies, and the tolerance
abbrev pub solve_report : Sketch → Plan → ℕ → Placed → Tolerance → List ℕ
solve_report s p bits at t = (codes "verdict well\n" ++ solve_counts p bits) ++ places_report s at t
