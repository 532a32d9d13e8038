use Rattle.std.proofs.Common.{◌≡◌, ◌∙◌, ap}
use Rattle.sk_family.specs.Clusters.{initial_clusters}
use Rattle.sk_graph.specs.SketchGraph.{graph_of}
use Rattle.sk_entry.specs.Growth.{empty_sketch}
use Rattle.sk_session.proofs.Consistency.{consistent_new}
use Rattle.sk_session.proofs.session.Session.new.Goals as goal

pub invariant_of-result : goal.invariant_of-result
invariant_of-result c =
    let family : c.in_ok-family.family ≡ initial_clusters (graph_of empty_sketch) =
    c.in_ok-family.ensures.clusters ∙ ap initial_clusters (c.in_ok-reduce.ensures.graph ∙ ap graph_of c.empty_sketch-sketch.ensures) in
    rw (c.new.ensures, c.of.ensures, c.empty_sketch-sketch.ensures) (consistent_new c.in_ok-family.family family)
