-- The boxes of a tree and its faults. Nothing here knows an order of work.
use Rattle.std.specs.Prelude.{◌≡◌, ◌⊎◌, ℕ, List, [], ◌∷◌, map, Option, Some, None, Result, Ok, Err, find}
use Rattle.std.specs.Option.{option_map, option_or}
use Rattle.sk_base.specs.declared.Edge.{Edge}
use Rattle.sk_base.specs.declared.Block.{Block}
use Rattle.sk_base.specs.declared.Pin.{Pin}
use Rattle.sk_base.specs.declared.Graph.{Graph}
use Rattle.sk_base.specs.declared.Name.{Name}
use Rattle.sk_base.specs.ClusterNames.{name_eq, IsBelow}
use Rattle.sk_base.specs.Lookups.{edge_numbered, block_numbered}
use Rattle.sk_steps.specs.declared.BoxOf.{BoxOf}
use Rattle.sk_steps.specs.Leaves.{leaf, pin_box}
use Rattle.sk_tree.specs.declared.PlanStep.{PlanStep}
use Rattle.sk_tree.specs.declared.Tree.{Tree}
use Rattle.sk_tree.specs.declared.Tree.TheVariants.{Leaf, Join'}
use Rattle.sk_place.specs.declared.boxes.BoxAt.{BoxAt}
use Rattle.sk_place.specs.declared.settling.PlaceBy.{PlaceBy}
use Rattle.sk_place.specs.declared.fault.StepFault.{StepFault}
use Rattle.sk_place.specs.Clusters.{with_box, with_boxes}
use Rattle.sk_place.specs.Steps.{joined}

-- what has a frame: a constraint between two elements, or a block
pub data Framed : Type 0 where
  edge : Edge → Framed
  block : Block → Framed

-- what has a frame, of this number
abbrev pub framed_of : Graph → ℕ → Option Framed
framed_of g k = option_or (option_map block (block_numbered g k)) (option_map edge (edge_numbered g k))

-- the step of this name
abbrev pub step_of : List PlanStep → Name → Option PlanStep
step_of steps n = find (λ (s : PlanStep). name_eq s.step n) steps

abbrev pub two_boxes : {G N : Type 0} → Edge → Result (BoxOf G × BoxOf G) N → Option (List (BoxAt G))
two_boxes e (Ok found) = Some (with_box (record { elem = e.u; at = found.0 }) (record { elem = e.v; at = found.1 } ∷ []))
two_boxes e (Err fault) = None

-- the points of pins, in rising order of their elements' numbers
abbrev pub pin_at : {G : Type 0} → ℕ → Pin → BoxAt G
pin_at F pin = record { elem = pin.elem; at = pin_box F pin }

abbrev pub pin_boxes : {G : Type 0} → ℕ → List Pin → List (BoxAt G)
pin_boxes F pins = with_boxes (map (pin_at F) pins) []

-- the boxes of a constraint's two ends or of a block's pins, in its frame
abbrev pub frame_of : {G : Type 0} → ℕ → Option Framed → Option (List (BoxAt G))
frame_of F (Some (edge e)) = two_boxes e (leaf F e.measure)
frame_of F (Some (block b)) = Some (pin_boxes F b.pins)
frame_of F None = None

-- what the step of this name makes of its three children's boxes: boxes, or a fault; nothing where a child has no boxes
abbrev pub made : {G : Type 0} → PlaceBy → ℕ → Option PlanStep → Option (List (BoxAt G)) → Option (List (BoxAt G)) → Option (List (BoxAt G)) → Option (Result (List (BoxAt G)) StepFault)
made placing F (Some s) (Some one) (Some two) (Some three) = Some (joined placing F s one two three)
made placing F (Some s) (Some one) (Some two) None = None
made placing F (Some s) (Some one) None three = None
made placing F (Some s) None two three = None
made placing F None one two three = None

abbrev pub boxes_in : {X E : Type 0} → Option (Result X E) → Option X
boxes_in (Some (Ok x)) = Some x
boxes_in (Some (Err e)) = None
boxes_in None = None

-- the boxes of a tree: the frame of a constraint or a block, or what a step makes of the boxes of its three children
abbrev pub boxes : {G : Type 0} → PlaceBy → ℕ → Graph → List PlanStep → Tree → Option (List (BoxAt G))
boxes placing F g steps (Leaf c) = frame_of F (framed_of g c.0)
boxes placing F g steps (Join' p step shared one two three) =
    boxes_in (made placing F (step_of steps step) (boxes placing F g steps one) (boxes placing F g steps two) (boxes placing F g steps three))

-- f is the fault of a join whose three children have boxes
abbrev pub IsFault : Type 0 → PlaceBy → ℕ → Graph → List PlanStep → Tree → StepFault → Type 0
IsFault G placing F g steps (Leaf c) f = ⊥
IsFault G placing F g steps (Join' p step shared one two three) f =
    (made {G = G} placing F (step_of steps step) (boxes placing F g steps one) (boxes placing F g steps two) (boxes placing F g steps three) ≡ Some (Err f))
    ⊎ (IsFault G placing F g steps one f ⊎ (IsFault G placing F g steps two f ⊎ IsFault G placing F g steps three f))

-- no join of a lesser step has a fault
pub record IsFirstFault (G : Type 0) (placing : PlaceBy) (F : ℕ) (g : Graph) (steps : List PlanStep) (t : Tree) (f : StepFault) : Type 0 where
  pub fails : IsFault G placing F g steps t f
  pub first : (other : StepFault) → IsFault G placing F g steps t other → ¬ IsBelow other.step f.step

-- the tree has these boxes, and no join of it has a fault
pub record HasBoxes {G : Type 0} (placing : PlaceBy) (F : ℕ) (g : Graph) (steps : List PlanStep) (t : Tree) (bs : List (BoxAt G)) : Type 0 where
  pub are : boxes placing F g steps t ≡ Some bs
  pub faultless : (f : StepFault) → ¬ IsFault G placing F g steps t f
