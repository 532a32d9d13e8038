-- The plan of a sketch by a picker's run, and so by an order of merges.
use Rattle.std.specs.Prelude.{ℕ, All, map}
use Rattle.sk_base.specs.declared.Sketch.{Sketch}
use Rattle.sk_family.specs.Clusters.{Clusters, initial_clusters}
use Rattle.sk_graph.specs.SketchGraph.{graph_of}
use Rattle.sk_close_by_order.specs.declared.Order.{Order}
use Rattle.sk_close_by_order.specs.Orders.{Choosing, place_of, next_call}
use Rattle.sk_close_by_order.specs.Run.{IsRun}
use Rattle.sk_tree.specs.declared.Plan.{Plan}
use Rattle.sk_tree.specs.LegalPlan.{IsLegalPlan, merge_told}
use Rattle.sk_tree.specs.DrawnChoice.{HasDrawnChoice}
use Rattle.sk_plan.specs.Judged.{IsWell}

-- a picker of the order before its first call
abbrev pub fresh : Order → Choosing
fresh order = record { order = order; call = 0 }

-- the verdict is well, and this is the legal plan whose merges are those of the picker's run from the initial family, with the
-- choices of the drawing
pub record IsPlanOf {P : Type 0} (answer : P → ℕ → ℕ) (after : P → ℕ → P) (picker : P) (s : Sketch) (p : Plan) : Type 0 where
  pub well : IsWell (graph_of s)
  pub legal : IsLegalPlan (graph_of s) p
  pub end : Clusters
  pub last : P
  pub run : IsRun answer after (graph_of s) (initial_clusters (graph_of s)) picker (map merge_told p.steps) end last
  pub drawn : All (λ step. HasDrawnChoice s step) p.steps

-- the same by the run of a fresh picker of the order
abbrev pub IsPlanBy : Order → Sketch → Plan → Type 0
IsPlanBy order s p = IsPlanOf place_of next_call (fresh order) s p
