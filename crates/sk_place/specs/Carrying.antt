-- A child's further boxes, carried into the kept child's frame.
use Rattle.std.specs.Prelude.{◌≡◌, ℕ, List, [], ◌∷◌, Result, Ok, Err, if◌then◌else◌}
use Rattle.sk_base.specs.declared.Elem.{Elem}
use Rattle.sk_base.specs.declared.Name.{Name}
use Rattle.sk_interval.specs.declared.Cause.{Cause}
use Rattle.sk_interval.specs.declared.Cause.TheVariants.{Range}
use Rattle.sk_steps.specs.declared.What.{What}
use Rattle.sk_steps.specs.declared.Pair.{Pair}
use Rattle.sk_steps.specs.declared.Motion.{Motion}
use Rattle.sk_steps.specs.Motions.{motion}
use Rattle.sk_steps.specs.Carried.{carried}
use Rattle.sk_place.specs.declared.boxes.BoxAt.{BoxAt}
use Rattle.sk_place.specs.declared.fault.Phase.{Phase}
use Rattle.sk_place.specs.declared.fault.StepFault.{StepFault}
use Rattle.sk_place.specs.declared.fault.PlaceError.{PlaceError}
use Rattle.sk_place.specs.declared.fault.BoxFault.{BoxFault}
use Rattle.sk_place.specs.declared.fault.MoveError.{MoveError}
use Rattle.sk_place.specs.declared.fault.MoveError.TheVariants as moving
use Rattle.sk_place.specs.declared.fault.PlaceError.TheVariants.{Fault, NoMemory}
use Rattle.sk_steps.specs.Boxes.{kind_of}
use Rattle.sk_place.specs.declared.settling.PlaceBy.{PlaceBy}
use Rattle.sk_place.specs.Settling.{settled_box, settled_turn}
use Rattle.sk_place.specs.Clusters.{Rise, Holds, box_of, besides, comes_first}

-- a quantity's cause, as a fault of the step
abbrev pub faulty : {X : Type 0} → Name → Phase → Elem → Result X (What × Cause) → Result X StepFault
faulty step phase elem (Ok x) = Ok x
faulty step phase elem (Err c) = Err (record { step = step; phase = phase; what = c.0; elem = elem; cause = c.1 })

-- one after another: the first fault ends it
abbrev pub and_then : {X Y E : Type 0} → Result X E → (X → Result Y E) → Result Y E
and_then (Ok x) f = f x
and_then (Err e) f = Err e

-- a quantity's cause, as a fault of an element's box
abbrev pub box_faulty : {X : Type 0} → Elem → Result X (What × Cause) → Result X BoxFault
box_faulty elem (Ok x) = Ok x
box_faulty elem (Err c) = Err (record { what = c.0; elem = elem; cause = c.1 })

-- a box's fault, as a fault of the step
abbrev pub in_step : {X : Type 0} → Name → Phase → Result X BoxFault → Result X StepFault
in_step step phase (Ok x) = Ok x
in_step step phase (Err f) = Err (record { step = step; phase = phase; what = f.what; elem = f.elem; cause = f.cause })

-- the boxes in their order, each moved, and settled where places are points
abbrev pub carried_each : {G : Type 0} → PlaceBy → ℕ → Motion G → List (BoxAt G) → Result (List (BoxAt G)) BoxFault
carried_each placing F m [] = Ok []
carried_each placing F m (b ∷ bs) =
    and_then (box_faulty b.elem (settled_box placing F (carried F m b.at))) (λ at.
    and_then (carried_each placing F m bs) (λ rest.
    Ok (record { elem = b.elem; at = at } ∷ rest)))

-- the boxes of two elements
abbrev pub pair_in : {G : Type 0} → List (BoxAt G) → Elem → Elem → Pair G
pair_in bs p q = record { p = box_of bs p; q = box_of bs q }

-- some boxes, if there are any, moved as p and q are, by a turn that is settled where places are points
abbrev pub moved : {G : Type 0} → PlaceBy → ℕ → Name → Phase → Elem → Pair G → Pair G → List (BoxAt G) → Result (List (BoxAt G)) StepFault
moved placing F step phase p old new [] = Ok []
moved placing F step phase p old new (b ∷ bs) =
    and_then (faulty step phase p (settled_turn placing F (motion F old new))) (λ m. in_step step phase (carried_each placing F m (b ∷ bs)))

abbrev pub moved_by : {G : Type 0} → PlaceBy → ℕ → Name → Phase → Elem → Elem → List (BoxAt G) → List (BoxAt G) → List (BoxAt G) → Result (List (BoxAt G)) StepFault
moved_by placing F step phase p q child now bs = moved placing F step phase p (pair_in child p q) (pair_in now p q) bs

-- the child's boxes besides those of p and q, moved as p and q are from the child to where they are now
abbrev pub carried_child : {G : Type 0} → PlaceBy → ℕ → Name → Phase → Elem → Elem → List (BoxAt G) → List (BoxAt G) → Result (List (BoxAt G)) StepFault
carried_child placing F step phase p q child now =
    if comes_first child p q then moved_by placing F step phase p q child now (besides p q child)
    else moved_by placing F step phase q p child now (besides p q child)

-- both hold p and q, each of one kind in both
pub record AreShared {G : Type 0} (p q : Elem) (child now : List (BoxAt G)) : Type 0 where
  pub child_rises : Rise child
  pub now_rises : Rise now
  pub child_p : Holds child p
  pub child_q : Holds child q
  pub now_p : Holds now p
  pub now_q : Holds now q
  pub p_alike : kind_of (box_of child p) ≡ kind_of (box_of now p)
  pub q_alike : kind_of (box_of child q) ≡ kind_of (box_of now q)

-- the answer is the defined one, or memory ran out
abbrev pub Answers : {X : Type 0} → Result X PlaceError → Result X StepFault → Type 0
Answers (Ok x) defined = defined ≡ Ok x
Answers (Err (Fault f)) defined = defined ≡ Err f
Answers (Err NoMemory) defined = Unit {0}

abbrev pub AnswersMove : {X : Type 0} → Result X MoveError → Result X BoxFault → Type 0
AnswersMove (Ok x) defined = defined ≡ Ok x
AnswersMove (Err (moving.Fault f)) defined = defined ≡ Err f
AnswersMove (Err moving.NoMemory) defined = Unit {0}

-- a box that can't be carried has a number that gets too great, and no other fault
abbrev pub FailsByRange : {X : Type 0} → Result X MoveError → Type 0
FailsByRange (Ok x) = Unit {0}
FailsByRange (Err (moving.Fault f)) = f.cause ≡ Range
FailsByRange (Err moving.NoMemory) = Unit {0}
