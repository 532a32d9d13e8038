-- Which plans are legal for a graph.
use Rattle.std.specs.Prelude.{◌≡◌, ◌⊎◌, ◌<◌, List, [], ◌∷◌, map, length, Contains, Some}
use Rattle.sk_base.specs.declared.Elem.{Elem}
use Rattle.sk_base.specs.declared.ConId.{ConId}
use Rattle.sk_base.specs.declared.Node.{Node}
use Rattle.sk_base.specs.declared.Graph.{Graph}
use Rattle.sk_base.specs.declared.Kind.TheVariants.{Point, Line}
use Rattle.sk_base.specs.declared.Name.{Name}
use Rattle.sk_base.specs.declared.Name.TheVariants.{Step}
use Rattle.sk_base.specs.ClusterNames.{IsBelow}
use Rattle.sk_base.specs.SoundGraph.{HasNode}
use Rattle.sk_family.specs.declared.Cluster.{Cluster}
use Rattle.sk_family.specs.Body.{Start, starts}
use Rattle.sk_family.specs.Clusters.{Clusters, IsNamed, initial_clusters}
use Rattle.sk_family.specs.declared.Merge.{Merge}
use Rattle.sk_family.specs.declared.Merge.TheVariants.{Three}
use Rattle.sk_rules.specs.declared.Taken.{Taken}
use Rattle.sk_family.specs.Merges.{Falls}
use Rattle.sk_rules.specs.Merges.{merged}
use Rattle.sk_tree.specs.declared.plan.Choice.{Choice}
use Rattle.sk_tree.specs.declared.plan.Choice.TheVariants.{Turn, Advance, Nothing}
use Rattle.sk_tree.specs.declared.plan.PlanStep.{PlanStep}
use Rattle.sk_tree.specs.declared.plan.Plan.{Plan}
use Rattle.sk_tree.specs.Meeting.{JoinsOnce}

-- the numbers of all constraints and blocks, rising
abbrev pub numbers_of : Graph → List ConId
numbers_of g = map (λ (s : Start). s.number) (starts g)

-- the triangle merge that a step tells, and the same as it was taken
abbrev pub merge_told : PlanStep → Merge
merge_told s = Three s.one s.two s.three

abbrev pub taken_told : PlanStep → Taken
taken_told s = record { step = s.step; merge = merge_told s; shared = record { a = s.a; b = s.b; c = Some s.c } }

-- the other has fewer elements, or as many and no lesser name
abbrev pub IsPreferred : Cluster → Cluster → Type 0
IsPreferred a b = (length b.elements < length a.elements) ⊎ ((length b.elements ≡ length a.elements) × ¬ IsBelow b.name a.name)

-- of the clusters of these names it is the one with most elements, and of several such the one with the least name
abbrev pub IsKept : Clusters → List Name → Name → Type 0
IsKept f names kept = Contains names kept × ((a : Cluster) × IsNamed f kept a × ((n : Name) (b : Cluster) → Contains names n → IsNamed f n b → IsPreferred a b))

-- the first is a line, the others are points
abbrev pub IsLineWithPoints : Graph → Elem → Elem → Elem → Type 0
IsLineWithPoints g a b c = HasNode g a Line × HasNode g b Point × HasNode g c Point

-- the first is a point, the others are lines
abbrev pub IsPointWithLines : Graph → Elem → Elem → Elem → Type 0
IsPointWithLines g a b c = HasNode g a Point × HasNode g b Line × HasNode g c Line

-- three points turn, two points advance along a line, and a point with two lines leaves nothing open
abbrev pub FitsKinds : Graph → Elem → Elem → Elem → Choice → Type 0
FitsKinds g a b c (Turn sign) = HasNode g a Point × HasNode g b Point × HasNode g c Point
FitsKinds g a b c (Advance sign) = IsLineWithPoints g a b c ⊎ (IsLineWithPoints g b c a ⊎ IsLineWithPoints g c a b)
FitsKinds g a b c Nothing = IsPointWithLines g a b c ⊎ (IsPointWithLines g b c a ⊎ IsPointWithLines g c a b)

-- the family may take the step: it has the next step's name, its names fall and live, the three clusters
-- meet once in the shared elements, and what is kept and open are as these tell
pub record IsLegalStep (g : Graph) (f : Clusters) (s : PlanStep) : Type 0 where
  pub next : s.step ≡ Step f.next_step
  pub falls : Falls (merge_told s)
  pub joins : JoinsOnce g f s.one s.two s.three s.a s.b s.c
  pub keeps : IsKept f (s.one ∷ s.two ∷ s.three ∷ []) s.keeps
  pub choice : FitsKinds g s.a s.b s.c s.choice

-- each node is one of the cluster's elements
abbrev pub HasNodes : Graph → Cluster → Type 0
HasNodes g c = (n : Node) → Contains g.nodes n → Contains c.elements n.elem

-- one cluster with all nodes is left; or there is one node, no constraint and no block
abbrev pub IsWhole : Graph → Clusters → Type 0
IsWhole g f = ((c : Cluster) × (f.live ≡ c ∷ []) × HasNodes g c) ⊎ ((length g.nodes ≡ 1) × (g.edges ≡ []) × (g.blocks ≡ []))

-- the family after the step
abbrev pub next_after : Clusters → PlanStep → Clusters
next_after f step = merged f (merge_told step)

-- from the family on the steps may be taken one after another, and the whole is left
abbrev pub AreLegalSteps : Graph → Clusters → List PlanStep → Type 0
AreLegalSteps g f [] = IsWhole g f
AreLegalSteps g f (s ∷ ss) = IsLegalStep g f s × AreLegalSteps g (next_after f s) ss

-- the leaves are all constraints, rising; the steps s1, s2 and so on lead from the initial family to the whole
pub record IsLegalPlan (g : Graph) (p : Plan) : Type 0 where
  pub leaves : p.leaves ≡ numbers_of g
  pub steps : AreLegalSteps g (initial_clusters g) p.steps
