-- A plan with the choices of some of its steps turned over.
use Rattle.std.specs.Prelude.{◌≡◌, ⊤, Bool, true, false, ◌&&◌, not, List, map, find, Option, Some, if◌then◌else◌}
use Rattle.std.specs.List.{list_any}
use Rattle.sk_base.specs.declared.Name.{Name}
use Rattle.sk_base.specs.ClusterNames.{name_eq, is_named}
use Rattle.sk_steps.specs.Leaves.{opposite}
use Rattle.sk_tree.specs.declared.Choice.{Choice}
use Rattle.sk_tree.specs.declared.Choice.TheVariants.{Turn, Advance, Nothing}
use Rattle.sk_tree.specs.declared.Plan.{Plan}
use Rattle.sk_tree.specs.declared.PlanStep.{PlanStep}
use Rattle.sk_flips.specs.declared.flip.FlipError.{FlipError}
use Rattle.sk_flips.specs.declared.flip.FlipError.TheVariants.{NoChoice, NoMemory}

-- something is open: a turn or an advance
abbrev pub is_open : Choice → Bool
is_open (Turn sign) = true
is_open (Advance sign) = true
is_open Nothing = false

-- the step has that name and leaves something open
abbrev pub is_open_step : Name → PlanStep → Bool
is_open_step n step = name_eq step.step n && is_open step.choice

-- one of the steps has that name and leaves something open
abbrev pub has_choice : List PlanStep → Name → Bool
has_choice steps n = list_any (is_open_step n) steps

-- the first of the names that is no step of the plan, or whose step leaves nothing open
abbrev pub first_without_choice : Plan → List Name → Option Name
first_without_choice p names = find (λ n. not (has_choice p.steps n)) names

-- the choice turned over
abbrev pub turned : Choice → Choice
turned (Turn sign) = Turn (opposite sign)
turned (Advance sign) = Advance (opposite sign)
turned Nothing = Nothing

-- the step, with its choice turned over where it is one of these
abbrev pub flipped_step : List Name → PlanStep → PlanStep
flipped_step names step = record step { choice = if is_named names step.step then turned step.choice else step.choice }

abbrev pub flipped : List Name → Plan → Plan
flipped names p = record { leaves = p.leaves; steps = map (flipped_step names) p.steps }

-- the name is the first without a choice; or memory ran out
abbrev pub IsFlipError : Plan → List Name → FlipError → Type 0
IsFlipError p names (NoChoice n) = first_without_choice p names ≡ Some n
IsFlipError p names NoMemory = ⊤
