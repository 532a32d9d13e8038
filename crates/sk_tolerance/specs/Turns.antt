-- The signs that are compared as drawn and as placed, and their order.
use Rattle.std.specs.Prelude.{◌≡◌, ◌≢◌, not, ℤ, pos, negsuc, List, [], ◌∷◌, ◌++◌, map, filter, Contains, Option, Some, None}
use Rattle.std.specs.List.{flat_map}
use Rattle.sk_base.specs.declared.ConId.{ConId}
use Rattle.sk_base.specs.declared.Constraint.{Constraint}
use Rattle.sk_base.specs.declared.Elem.{Elem}
use Rattle.sk_base.specs.declared.Name.{Name}
use Rattle.sk_base.specs.declared.Name.TheVariants.{Con}
use Rattle.sk_base.specs.declared.Pin.{Pin}
use Rattle.sk_base.specs.declared.Placed.{Placed}
use Rattle.sk_base.specs.declared.Rule.{Rule}
use Rattle.sk_base.specs.declared.Rule.TheVariants.{Distance, On, Tangent, Outside, Inside, Angle, Block}
use Rattle.sk_base.specs.declared.Sign.{Sign}
use Rattle.sk_base.specs.declared.Sign.TheVariants.{Plus, Minus}
use Rattle.sk_base.specs.declared.Sketch.{Sketch}
use Rattle.sk_base.specs.Drawn.{is_line}
use Rattle.sk_graph.specs.SketchGraph.{drawn_as}
use Rattle.sk_orient.specs.DrawnSigns.{drawn_sign, sense_drawn, turn_drawn, advance_drawn}
use Rattle.sk_orient.specs.PlacedSigns.{sense_placed, turn_placed, advance_placed}
use Rattle.sk_tree.specs.declared.Choice.{Choice}
use Rattle.sk_tree.specs.declared.Choice.TheVariants.{Turn, Advance, Nothing}
use Rattle.sk_tree.specs.declared.Plan.{Plan}
use Rattle.sk_tree.specs.declared.PlanStep.{PlanStep}
use Rattle.sk_tree.specs.ByNumber.{by_number}
use Rattle.sk_tolerance.specs.declared.turned.Turned.{Turned}
use Rattle.sk_tolerance.specs.declared.turned.Wanted.{Wanted}
use Rattle.sk_tolerance.specs.declared.turned.Wanted.TheVariants.{Drawn, Chosen}
use Rattle.sk_tolerance.specs.BlockTurns.{turn_given, corners}
use Rattle.sk_measure.specs.Placing.{lies}

-- a block turns as its corners are given and as they are placed; where all its pins lie on one line it has no sign
abbrev pub block_turns : Placed → ConId → Option (Pin × Pin × Pin) → List Turned
block_turns p k None = []
block_turns p k (Some three) = record { at = Con k.0; drawn = drawn_sign (turn_given three); placed = turn_placed (lies p three.0.elem) (lies p three.1.elem) (lies p three.2.elem) } ∷ []

module _ (s : Sketch) (p : Placed) where
  -- no other constraint has a sign that is compared: the side stands in the constraint's own inequality
  abbrev pub senses : ConId → Rule → List Turned
  senses k (Angle l m ratio) = record { at = Con k.0; drawn = sense_drawn (drawn_as s l) (drawn_as s m) ratio; placed = sense_placed (lies p l) (lies p m) ratio } ∷ []
  senses k (Distance u v len) = []
  senses k (On u v) = []
  senses k (Tangent u v) = []
  senses k (Outside u v) = []
  senses k (Inside u v) = []
  senses k (Block pins) = block_turns p k (corners pins)

  abbrev pub turn : Name → Elem → Elem → Elem → Turned
  turn at x y z = record { at = at; drawn = turn_drawn (drawn_as s x) (drawn_as s y) (drawn_as s z); placed = turn_placed (lies p x) (lies p y) (lies p z) }

  abbrev pub advance : Name → Elem → Elem → Elem → Turned
  advance at line x y = record { at = at; drawn = advance_drawn (drawn_as s line) (drawn_as s x) (drawn_as s y); placed = advance_placed (lies p line) (lies p x) (lies p y) }

  -- three points have a turn, two points an advance along a line, else nothing is open
  abbrev pub open_between : Name → List Elem → List Elem → List Turned
  open_between at (x ∷ y ∷ z ∷ []) [] = turn at x y z ∷ []
  open_between at (x ∷ y ∷ []) (line ∷ []) = advance at line x y ∷ []
  open_between at points lines = []

  -- the same of elements of which some are points and some are lines
  abbrev pub choices : Name → List Elem → List Turned
  choices at elements = open_between at (filter (λ e. not (is_line (drawn_as s e))) elements) (filter (λ e. is_line (drawn_as s e)) elements)

-- the senses of the angles and the turns of the blocks, by number of the constraint
abbrev pub constraint_signs : Sketch → Placed → List Constraint → List Turned
constraint_signs s p constraints = flat_map (λ (c : Constraint). senses s p c.number c.rule) constraints

-- the choices of the steps, each of its elements by rising number
abbrev pub step_signs : Sketch → Placed → List PlanStep → List Turned
step_signs s p steps = flat_map (λ (step : PlanStep). choices s p step.step (by_number step.a step.b step.c)) steps

-- all signs that are compared
abbrev pub signs : Sketch → Placed → Plan → List Turned
signs s p plan = constraint_signs s p s.constraints ++ step_signs s p plan.steps

-- the sign of a step as its choice in the plan has it, in the place of the drawing's
abbrev pub as_chosen : Choice → Turned → Turned
as_chosen (Turn sign) drawn = record { at = drawn.at; drawn = sign; placed = drawn.placed }
as_chosen (Advance sign) drawn = record { at = drawn.at; drawn = sign; placed = drawn.placed }
as_chosen Nothing drawn = drawn

-- the signs of a step with this choice, as they are wanted: as drawn, or as chosen
abbrev pub wanted_of : Wanted → Choice → List Turned → List Turned
wanted_of Drawn choice signs = signs
wanted_of Chosen choice signs = map (as_chosen choice) signs

abbrev pub signs_of_step : Wanted → Sketch → Placed → PlanStep → List Turned
signs_of_step wanted s p step = wanted_of wanted step.choice (choices s p step.step (by_number step.a step.b step.c))

abbrev pub signs_of_steps : Wanted → Sketch → Placed → List PlanStep → List Turned
signs_of_steps wanted s p steps = flat_map (signs_of_step wanted s p) steps

-- all signs that are compared, as they are wanted; those that are drawn are `signs`
abbrev pub signs_wanted : Wanted → Sketch → Placed → Plan → List Turned
signs_wanted wanted s p plan = constraint_signs s p s.constraints ++ signs_of_steps wanted s p plan.steps

abbrev pub value_of : Sign → ℤ
value_of Plus = pos 1
value_of Minus = negsuc 0

-- zero is neither plus nor minus
abbrev pub IsAsDrawn : Turned → Type 0
IsAsDrawn sign = sign.placed ≡ value_of sign.drawn

abbrev pub IsTurned : Turned → Type 0
IsTurned sign = sign.placed ≢ value_of sign.drawn

abbrev pub AllAsDrawn : List Turned → Type 0
AllAsDrawn signs = (sign : Turned) → Contains signs sign → IsAsDrawn sign
