-- Where the placement stands between two steps.
use Rattle.std.specs.Prelude.{◌≡◌, ◌≢◌, IsSome, ◌<◌, ◌+◌, ℕ, List, map, take, drop, length, slice_index_or, Option, Some, None, Result, Ok, Err, Contains}
use Rattle.sk_base.specs.declared.Graph.{Graph}
use Rattle.sk_base.specs.declared.Name.{Name}
use Rattle.sk_base.specs.declared.Name.TheVariants.{Con, Step}
use Rattle.sk_base.specs.SoundGraph.{HasNode}
use Rattle.sk_family.specs.declared.Cluster.{Cluster}
use Rattle.sk_family.specs.Clusters.{Clusters, IsSound, IsLive, initial_clusters}
use Rattle.sk_steps.specs.Boxes.{kind_of}
use Rattle.sk_tree.specs.declared.Plan.{Plan}
use Rattle.sk_tree.specs.declared.PlanStep.{PlanStep}
use Rattle.sk_tree.specs.declared.Tree.{Tree}
use Rattle.sk_tree.specs.LegalPlan.{taken_told, AreLegalSteps}
use Rattle.sk_tree.specs.Trees.{IsTreeOf}
use Rattle.sk_place.specs.declared.boxes.BoxAt.{BoxAt}
use Rattle.sk_place.specs.declared.settling.PlaceBy.{PlaceBy}
use Rattle.sk_place.specs.declared.settling.PlaceBy.TheVariants.{Boxes}
use Rattle.sk_place.specs.declared.fault.PlaceError.{PlaceError}
use Rattle.sk_place.specs.declared.fault.PlaceError.TheVariants.{Fault, NoMemory}
use Rattle.sk_place.specs.declared.fault.StepFault.{StepFault}
use Rattle.sk_steps.specs.ThirdElement.{IsConstructible}
use Rattle.sk_place.specs.Clusters.{elements_of}
use Rattle.sk_place.specs.Steps.{setting, ordered, given, joined, HasCorners}
use Rattle.sk_place.specs.Trees.{framed_of, frame_of, HasBoxes}
use Rattle.sk_place.specs.Placing.{IsPlaced}
use Rattle.sk_place.specs.Nesting.{IsKept}
use Rattle.sk_place.specs.Rounding.{AreBounded}

-- the boxes of a cluster by its name: a constraint's and a block's are those of its frame, a step's stand at its number
abbrev pub held : {G : Type 0} → ℕ → Graph → List (Option (List (BoxAt G))) → Name → Option (List (BoxAt G))
held F g live (Con k) = frame_of F (framed_of g k)
held F g live (Step k) = slice_index_or live k None

-- a constraint or a block of that number is there, or a step's boxes
abbrev pub IsThere : {G : Type 0} → Graph → List (Option (List (BoxAt G))) → Name → Type 0
IsThere g live (Con k) = IsSome (framed_of g k)
IsThere g live (Step k) = IsSome (slice_index_or live k None)

abbrev pub HasTree : Plan → Name → Tree → Type 0
HasTree p n t = IsTreeOf (map taken_told p.steps) n t

-- each box is of its element's kind
abbrev pub AreOfKinds : {G : Type 0} → Graph → List (BoxAt G) → Type 0
AreOfKinds {G} g bs = (b : BoxAt G) → Contains bs b → HasNode g b.elem (kind_of b.at)

-- exactly the cluster's elements have boxes, within their limits, and these are those of each tree of its name
pub record ArePlaced {G : Type 0} (placing : PlaceBy) (F : ℕ) (g : Graph) (p : Plan) (c : Cluster) (bs : List (BoxAt G)) : Type 0 where
  pub elements : elements_of bs ≡ c.elements
  pub kinds : AreOfKinds g bs
  pub bounded : AreBounded F bs
  pub trees : (t : Tree) → HasTree p c.name t → HasBoxes placing F g p.steps t bs

-- so many steps are done: they lead to a family each of whose clusters has its boxes, and so has each tree of a step
pub record IsAfter {G : Type 0} (placing : PlaceBy) (F : ℕ) (g : Graph) (p : Plan) (i : ℕ) (live : List (Option (List (BoxAt G)))) : Type 0 where
  pub family : Clusters
  pub sound : IsSound family
  pub legal : AreLegalSteps g family (drop i p.steps)
  pub next : family.next_step ≡ i + 1
  pub first : i ≡ 0 → family ≡ initial_clusters g
  pub latest : 0 < i → IsLive family (Step i)
  pub slots : length live ≡ i + 1
  pub there : (c : Cluster) → Contains family.live c → IsThere g live c.name
  pub placed : (c : Cluster) → Contains family.live c → (bs : List (BoxAt G)) → held F g live c.name ≡ Some bs → ArePlaced placing F g p c bs
  pub settled : (s : PlanStep) → Contains (take i p.steps) s → (t : Tree) → HasTree p s.step t → (bs : List (BoxAt G)) × HasBoxes placing F g p.steps t bs

-- the boxes of the step's three children
pub record AreHeld {G : Type 0} (F : ℕ) (g : Graph) (live : List (Option (List (BoxAt G)))) (s : PlanStep) (one two three : List (BoxAt G)) : Type 0 where
  pub first : held F g live s.one ≡ Some one
  pub second : held F g live s.two ≡ Some two
  pub third : held F g live s.three ≡ Some three

-- the three are live under different names, and their boxes fit together
pub record CanJoin {G : Type 0} (F : ℕ) (g : Graph) (live : List (Option (List (BoxAt G)))) (s : PlanStep) : Type 0 where
  pub one : IsThere g live s.one
  pub two : IsThere g live s.two
  pub three : IsThere g live s.three
  pub differ : (s.one ≢ s.two) × (s.two ≢ s.three) × (s.three ≢ s.one)
  pub corners : (x y z : List (BoxAt G)) → AreHeld F g live s x y z → HasCorners (setting s x y z)
  pub constructible : (x y z : List (BoxAt G)) → AreHeld F g live s x y z → IsConstructible (given s.choice (ordered (setting s x y z)))

-- this is what the step makes of its three children
pub record IsMadeOf {G : Type 0} (placing : PlaceBy) (F : ℕ) (g : Graph) (live : List (Option (List (BoxAt G)))) (s : PlanStep) (outcome : Result (List (BoxAt G)) StepFault) : Type 0 where
  pub one : List (BoxAt G)
  pub two : List (BoxAt G)
  pub three : List (BoxAt G)
  pub are : AreHeld F g live s one two three
  pub is : joined placing F s one two three ≡ outcome

-- the answer is what the step makes, or memory ran out
abbrev pub IsStepOf : {G : Type 0} → PlaceBy → ℕ → Graph → List (Option (List (BoxAt G))) → PlanStep → Result (List (BoxAt G)) PlaceError → Type 0
IsStepOf placing F g live s (Ok bs) = IsMadeOf placing F g live s (Ok bs)
IsStepOf placing F g live s (Err (Fault f)) = IsMadeOf placing F g live s (Err f)
IsStepOf placing F g live s (Err NoMemory) = Unit {0}

-- all steps are done; or the plan has this fault
abbrev pub IsRun : {G : Type 0} → PlaceBy → ℕ → Graph → Plan → Result (List (Option (List (BoxAt G)))) PlaceError → Type 0
IsRun placing F g p (Ok live) = IsAfter placing F g p (length p.steps) live
IsRun {G} placing F g p (Err (Fault f)) = (let refused : Result (List (BoxAt G)) PlaceError = Err (Fault f) in IsPlaced placing F g p refused × (placing ≡ Boxes → (k : ℕ) → IsKept F k g p refused))
IsRun placing F g p (Err NoMemory) = Unit {0}
