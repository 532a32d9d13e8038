-- What the drawing chooses where a step leaves something open.
use Rattle.std.specs.Prelude.{◌≡◌, not, List, [], ◌∷◌, ◌++◌, filter, IsSome, IfSome, option_to_list}
use Rattle.sk_base.specs.declared.Elem.{Elem}
use Rattle.sk_base.specs.declared.Shape.{Shape}
use Rattle.sk_base.specs.declared.Sketch.{Sketch}
use Rattle.sk_base.specs.Drawn.{shape_of, is_line}
use Rattle.sk_orient.specs.DrawnSigns.{turn_drawn, advance_drawn}
use Rattle.sk_rules.specs.declared.Shared.{Shared}
use Rattle.sk_tree.specs.declared.plan.Choice.{Choice}
use Rattle.sk_tree.specs.declared.plan.Choice.TheVariants.{Turn, Advance, Nothing}
use Rattle.sk_tree.specs.declared.plan.PlanStep.{PlanStep}
use Rattle.sk_tree.specs.ByNumber.{by_number}

-- how elements are drawn
abbrev pub shapes_of : Sketch → List Elem → List Shape
shapes_of s [] = []
shapes_of s (e ∷ es) = option_to_list (shape_of s e) ++ shapes_of s es

-- three points have a turn, two points an advance along a line, else nothing is open
abbrev pub open_between : List Shape → List Shape → Choice
open_between (p ∷ q ∷ r ∷ []) [] = Turn (turn_drawn p q r)
open_between (p ∷ q ∷ []) (line ∷ []) = Advance (advance_drawn line p q)
open_between points lines = Nothing

-- the same of shapes of which some are points and some are lines
abbrev pub drawn_choice : List Shape → Choice
drawn_choice shapes = open_between (filter (λ s. not (is_line s)) shapes) (filter is_line shapes)

-- the step has the choice of the drawing, which takes its elements by rising number
abbrev pub HasDrawnChoice : Sketch → PlanStep → Type 0
HasDrawnChoice s step = step.choice ≡ drawn_choice (shapes_of s (by_number step.a step.b step.c))

-- the shared elements are drawn
abbrev pub AreDrawn : Sketch → Shared → Type 0
AreDrawn s shared = IsSome (shape_of s shared.a) × IsSome (shape_of s shared.b) × IfSome shared.c (λ c. IsSome (shape_of s c))
