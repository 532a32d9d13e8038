-- What is made, as it is handed on: the box itself, or settled at a point of the grid.
use Rattle.std.specs.Prelude.{ℕ, Result, Ok, Err}
use Rattle.sk_interval.specs.declared.Cause.{Cause}
use Rattle.sk_steps.specs.declared.BoxOf.{BoxOf}
use Rattle.sk_steps.specs.declared.What.{What}
use Rattle.sk_steps.specs.Settling.{settled}
use Rattle.sk_steps.specs.declared.Motion.{Motion}
use Rattle.sk_steps.specs.SettledMotions.{settled_motion}
use Rattle.sk_place.specs.declared.settling.PlaceBy.{PlaceBy}
use Rattle.sk_place.specs.declared.settling.PlaceBy.TheVariants.{Boxes, Points}

-- an element's box that was constructed or carried
abbrev pub settled_box : {G : Type 0} → PlaceBy → ℕ → Result (BoxOf G) (What × Cause) → Result (BoxOf G) (What × Cause)
settled_box Boxes F made = made
settled_box Points F (Ok b) = settled F b
settled_box Points F (Err fault) = Err fault

-- the turn of a motion
abbrev pub settled_turn : {G : Type 0} → PlaceBy → ℕ → Result (Motion G) (What × Cause) → Result (Motion G) (What × Cause)
settled_turn Boxes F made = made
settled_turn Points F (Ok m) = settled_motion F m
settled_turn Points F (Err fault) = Err fault
