-- How a plan is placed on a grid, and what is measured then.
use Rattle.std.specs.Prelude.{◌≡◌, ⊤, ℕ, List, All, map, Result, Ok, Err}
use Rattle.std.specs.Option.{option_map}
use Rattle.sk_base.specs.declared.Graph.{Graph}
use Rattle.sk_base.specs.declared.Placed.{Placed}
use Rattle.sk_base.specs.declared.Sketch.{Sketch}
use Rattle.sk_base.specs.declared.Spot.{Spot}
use Rattle.sk_base.specs.Places.{IsBounded}
use Rattle.sk_graph.specs.SketchGraph.{graph_of}
use Rattle.sk_tree.specs.declared.Plan.{Plan}
use Rattle.sk_place.specs.declared.Layout.{Layout}
use Rattle.sk_place.specs.declared.BoxAt.{BoxAt}
use Rattle.sk_place.specs.declared.BoxFault.{BoxFault}
use Rattle.sk_place.specs.declared.PlaceBy.{PlaceBy}
use Rattle.sk_place.specs.declared.MoveError.{MoveError}
use Rattle.sk_place.specs.declared.MoveError.TheVariants as moving
use Rattle.sk_place.specs.Carrying.{carried_each}
use Rattle.sk_steps.specs.declared.Motion.{Motion}
use Rattle.sk_place.specs.declared.FrameBy.{FrameBy}
use Rattle.sk_place.specs.declared.FrameBy.TheVariants.{Base, Drawn}
use Rattle.sk_frame.specs.Frames.{frame_of}
use Rattle.sk_frame.specs.FrameMotions.{frame_motion}
use Rattle.sk_place.specs.declared.PlaceError.TheVariants as errors
use Rattle.sk_place.specs.Placing.{IsPlaced}
use Rattle.sk_place.specs.Rounding.{rounded}
use Rattle.sk_tolerance.specs.declared.Spotted.{Spotted}
use Rattle.sk_tolerance.specs.declared.Tolerance.{Tolerance}
use Rattle.sk_tolerance.specs.declared.Wanted.{Wanted}
use Rattle.sk_measure.specs.Least.{IsLeast}
use Rattle.sk_tolerance.specs.First.{IsFirst}
use Rattle.sk_tolerance.specs.Tolerances.{AllHold, IsWorstUnlessNone, IsFirstBeyond, lengthwise, anglewise, everything}
use Rattle.sk_tolerance.specs.Turns.{signs_wanted, IsTurned, AllAsDrawn}
use Rattle.sk_solve.specs.declared.placing.Placement.{Placement}
use Rattle.sk_solve.specs.declared.placing.Placement.TheVariants.{Fault, Uncarried, Beyond, Turned, Holds}

-- what comes of the boxes of the base's frame: they stay there, or each is carried to where that frame is drawn
abbrev pub IsCarried : {G : Type 0} → FrameBy → PlaceBy → ℕ → Sketch → Plan → List (BoxAt G) → Result (List (BoxAt G)) BoxFault → Type 0
IsCarried Base by F s p boxes outcome = outcome ≡ Ok boxes
IsCarried {G} Drawn by F s p boxes outcome = (m : Motion G) × (frame_motion F (frame_of s (graph_of s) p) ≡ Ok m) × (carried_each by F m boxes ≡ outcome)

-- the answer is what comes of them, or memory ran out
abbrev pub AnswersCarried : {G : Type 0} → FrameBy → PlaceBy → ℕ → Sketch → Plan → List (BoxAt G) → Result (List (BoxAt G)) MoveError → Type 0
AnswersCarried frame by F s p boxes (Ok there) = IsCarried frame by F s p boxes (Ok there)
AnswersCarried frame by F s p boxes (Err (moving.Fault f)) = IsCarried frame by F s p boxes (Err f)
AnswersCarried frame by F s p boxes (Err moving.NoMemory) = ⊤

-- the plan's boxes lie there, in the frame that is wanted
abbrev pub IsLaid : {G : Type 0} → Layout → ℕ → Sketch → Plan → List (BoxAt G) → Type 0
IsLaid {G} placing F s p there = (boxes : List (BoxAt G)) × IsPlaced placing.by F (graph_of s) p (Ok boxes) × IsCarried placing.frame placing.by F s p boxes (Ok there)

-- the elements of these boxes, each at the midpoint of its box
abbrev pub midpoints : {G : Type 0} → ℕ → List (BoxAt G) → Placed
midpoints F boxes = record { spots = map (rounded F) boxes }

-- the least numbers with which all lengths, and all angles and normals, hold, and what is worst
pub record IsTolerance (at : Placed) (g : Graph) (t : Tolerance) : Type 0 where
  pub lengths : IsLeast (AllHold at (lengthwise g)) t.t
  pub angles : IsLeast (AllHold at (anglewise g)) t.w
  pub worst_length : IsWorstUnlessNone at (lengthwise g) t.t (option_map (λ k. Spotted.Con k) t.worst_t)
  pub worst_angle : IsWorstUnlessNone at (anglewise g) t.w t.worst_w

-- where elements lie: the first line or constraint that passes the limit; else the first sign that isn't as wanted; else all holds
abbrev pub IsMeasured : Wanted → ℕ → Sketch → Plan → Placed → Placement → Type 0
IsMeasured wanted limit s p at (Fault f) = ⊥
IsMeasured wanted limit s p at (Uncarried f) = ⊥
IsMeasured wanted limit s p at (Beyond b) = IsFirstBeyond at (everything (graph_of s)) limit b
IsMeasured wanted limit s p at (Turned t) = AllHold at (everything (graph_of s)) limit × IsFirst IsTurned (signs_wanted wanted s at p) t
IsMeasured wanted limit s p at (Holds placed t) =
    (placed ≡ at) × AllHold at (everything (graph_of s)) limit × AllAsDrawn (signs_wanted wanted s at p) × IsTolerance at (graph_of s) t

-- the first faulty step of the plan; else the first box that can't be carried to the drawing; else what is measured where
-- the boxes have their midpoints
abbrev pub IsPlacement : Wanted → Type 0 → Layout → ℕ → ℕ → Sketch → Plan → Placement → Type 0
IsPlacement wanted G placing F limit s p (Fault f) = IsPlaced {G = G} placing.by F (graph_of s) p (Err (errors.Fault f))
IsPlacement wanted G placing F limit s p (Uncarried f) = (boxes : List (BoxAt G)) × IsPlaced placing.by F (graph_of s) p (Ok boxes) × IsCarried placing.frame placing.by F s p boxes (Err f)
IsPlacement wanted G placing F limit s p placement =
    (boxes : List (BoxAt G)) × IsLaid placing F s p boxes × IsMeasured wanted limit s p (midpoints F boxes) placement

-- the numbers of placed elements are within the bounds of placed numbers
abbrev pub LiesWithinBounds : Placement → Type 0
LiesWithinBounds (Holds at t) = All (λ (spot : Spot). IsBounded spot.at) at.spots
LiesWithinBounds placement = ⊤
