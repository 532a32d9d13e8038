-- What comes of planning a sketch.
use Rattle.std.specs.Prelude.{◌≡◌}
use Rattle.sk_base.specs.declared.Sketch.{Sketch}
use Rattle.sk_graph.specs.SketchGraph.{graph_of}
use Rattle.sk_plan.specs.PlanBy.{IsPlanBy}
use Rattle.sk_close_by_order.specs.declared.Order.{Order}
use Rattle.sk_cli.specs.declared.planning.Planning.{Planning}
use Rattle.sk_cli.specs.declared.planning.Planning.TheVariants.{Planned, NotWell}
use Rattle.sk_cli.specs.Solved.{IsReportNotWell}

-- these are the graph of the sketch and its plan by the order; or the verdict isn't well, and this is its check report
abbrev pub IsPlanning : Order → Sketch → Planning → Type 0
IsPlanning order s (Planned g p) = (g ≡ graph_of s) × IsPlanBy order s p
IsPlanning order s (NotWell text) = IsReportNotWell s text
