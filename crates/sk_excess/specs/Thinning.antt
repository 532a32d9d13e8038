-- What is left out of some constraints, as the search by halves finds it.
use Rattle.std.specs.Prelude.{◌==◌, ℕ, Bool, List, length}
use Rattle.std.specs.List.{list_any}
use Rattle.sk_base.specs.declared.ConId.{ConId}
use Rattle.sk_base.specs.declared.Graph.{Graph}
use Rattle.sk_family.specs.declared.Cluster.{Cluster}
use Rattle.sk_family.specs.Body.{Body}
use Rattle.sk_rules.specs.JustSome.{with_just}
use Rattle.sk_spare.specs.Sparing.{IsSpare}
use Rattle.sk_verdict.specs.OneCluster.{IsOneCluster}
use Rattle.sk_excess.specs.Going.{AreGoneOf, IsBut}

-- what is left out of these constraints, where all others are kept
abbrev pub AreLeftOutOf : Graph → List ConId → List ConId → Type 0
AreLeftOutOf g some left = AreGoneOf IsSpare g some left

-- those that pass make one cluster with all nodes, and the family is the closed one of all of them but those that
-- are set aside
pub record IsWithout (g : Graph) (passes : ConId → Bool) (aside : List ConId) (f : List Body) : Type 0 where
  pub one : IsOneCluster (with_just passes g)
  pub rest : IsBut g passes aside f

-- whether one of the clusters has so many elements
abbrev pub some_has : ℕ → List Cluster → Bool
some_has count clusters = list_any (λ (c : Cluster). length c.elements == count) clusters
