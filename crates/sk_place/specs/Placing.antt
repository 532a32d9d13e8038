-- Where a plan places the elements of its graph.
use Rattle.std.specs.Prelude.{◌≡◌, ℕ, pos, List, [], map, Result, Ok, Err}
use Rattle.sk_base.specs.declared.Graph.{Graph}
use Rattle.sk_base.specs.declared.Kind.{Kind}
use Rattle.sk_base.specs.declared.Node.{Node}
use Rattle.sk_interval.specs.Operations.{whole}
use Rattle.sk_steps.specs.declared.BoxOf.{BoxOf}
use Rattle.sk_steps.specs.declared.BoxOf.TheVariants.{Point, Line}
use Rattle.sk_tree.specs.declared.Plan.{Plan}
use Rattle.sk_tree.specs.declared.Tree.{Tree}
use Rattle.sk_tree.specs.PlanTree.{IsPlanTree}
use Rattle.sk_place.specs.declared.boxes.BoxAt.{BoxAt}
use Rattle.sk_place.specs.declared.settling.PlaceBy.{PlaceBy}
use Rattle.sk_place.specs.declared.fault.PlaceError.{PlaceError}
use Rattle.sk_place.specs.declared.fault.PlaceError.TheVariants.{Fault, NoMemory}
use Rattle.sk_place.specs.Trees.{HasBoxes, IsFirstFault}

-- an element alone: the point at the origin, or the line b = 1 through it
abbrev pub lone_box : {G : Type 0} → ℕ → Kind → BoxOf G
lone_box F Kind.Point = Point (whole F (pos 0)) (whole F (pos 0))
lone_box F Kind.Line = Line (whole F (pos 0)) (whole F (pos 1)) (whole F (pos 0))

abbrev pub lone_boxes : {G : Type 0} → ℕ → Graph → List (BoxAt G)
lone_boxes F g = map (λ (n : Node). record { elem = n.elem; at = lone_box F n.kind }) g.nodes

-- the answer is exactly what the plan's tree has: its boxes, or its first fault. Where there is no constraint, and so no
-- tree, the only element lies alone
abbrev pub IsPlaced : {G : Type 0} → PlaceBy → ℕ → Graph → Plan → Result (List (BoxAt G)) PlaceError → Type 0
IsPlaced placing F g p (Ok bs) = ((t : Tree) → IsPlanTree p t → HasBoxes placing F g p.steps t bs) × (p.leaves ≡ [] → bs ≡ lone_boxes F g)
IsPlaced {G} placing F g p (Err (Fault f)) = ((t : Tree) → IsPlanTree p t → IsFirstFault G placing F g p.steps t f) × ¬ (p.leaves ≡ [])
IsPlaced placing F g p (Err NoMemory) = Unit {0}
