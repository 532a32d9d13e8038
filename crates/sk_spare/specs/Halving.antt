-- Families that some of a graph's constraints make, as the search by halves keeps them.
use Rattle.std.specs.Prelude.{◌≡◌, ◌↔◌, ◌||◌, ◌*◌, ◌-◌, ℕ, Bool, true, false, List, Contains, length}
use Rattle.sk_base.specs.declared.ConId.{ConId}
use Rattle.sk_base.specs.declared.Graph.{Graph}
use Rattle.sk_base.specs.Numbering.{con_number}
use Rattle.sk_base.specs.Rising.{IsRising}
use Rattle.sk_family.specs.declared.Cluster.{Cluster}
use Rattle.sk_family.specs.Body.{Body, Start, starts, initial_bodies}
use Rattle.sk_rules.specs.Reach.{Reach, IsClosed, IsNormal}
use Rattle.sk_rules.specs.JustSome.{with_just}
use Rattle.sk_spare.specs.Numbers.{is_number}

-- merging leads to the family from the starts of the constraints that pass
abbrev pub IsMadeOf : Graph → (ConId → Bool) → List Body → Type 0
IsMadeOf g passes f = Reach (with_just passes g) (initial_bodies (with_just passes g)) f

-- whether it is one of these, or passes
abbrev pub too : (ConId → Bool) → List ConId → ConId → Bool
too passes numbers k = is_number numbers k || passes k

-- these are constraints of the graph, rising, and none of them passes
pub record AreFurther (g : Graph) (passes : ConId → Bool) (numbers : List ConId) : Type 0 where
  pub rise : IsRising con_number numbers
  pub there : (k : ConId) → Contains numbers k → (s : Start) × Contains (starts g) s × (s.number ≡ k)
  pub fresh : (k : ConId) → Contains numbers k → passes k ≡ false

-- the closed family of the owned constraints but for those that are set aside
pub record IsBeside (g : Graph) (owned aside : List ConId) (passes : ConId → Bool) (f : List Body) : Type 0 where
  pub exactly : (k : ConId) → (passes k ≡ true) ↔ (Contains owned k × ¬ Contains aside k)
  pub made : IsMadeOf g passes f
  pub closed : IsClosed g f

-- the body stands in a normal family of the graph
pub record IsIn (g : Graph) (f : List Body) (x : Body) : Type 0 where
  pub normal : IsNormal g f
  pub in_family : Contains f x

-- what a cluster weighs as one constraint between all its elements
abbrev pub cluster_weight : Cluster → ℕ
cluster_weight c = 2 * length c.elements - 3
