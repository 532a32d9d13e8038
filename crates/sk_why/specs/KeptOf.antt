-- What is kept of a graph.
use Rattle.std.specs.Prelude.{◌≡◌, List, filter, IfSome}
use Rattle.sk_base.specs.declared.ConId.{ConId}
use Rattle.sk_base.specs.declared.Graph.{Graph}
use Rattle.sk_family.specs.Clusters.{initial_clusters}
use Rattle.sk_tree.specs.LegalPlan.{numbers_of}
use Rattle.sk_excess.specs.LeftOut.{is_kept, kept_graph}
use Rattle.sk_why.specs.declared.keeping.Kept.{Kept}
use Rattle.sk_why.specs.BranchOf.{IsTreeOfAll}

-- its constraints but those that are left out, what each constraint of the whole graph starts with, and a tree of what is kept
-- where there is one
pub record IsKept (g : Graph) (left : List ConId) (kept : Kept) : Type 0 where
  pub numbers : kept.numbers ≡ filter (is_kept left) (numbers_of g)
  pub starts : kept.starts ≡ initial_clusters g
  pub tree : IfSome kept.tree (λ t. IsTreeOfAll (kept_graph left g) t)
