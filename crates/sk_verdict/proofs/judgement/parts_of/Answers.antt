use Rattle.std.proofs.Common.{sym, ap, ◌∙◌}
use Rattle.sk_verdict.specs.declared.part.Part.{Part}
use Rattle.sk_verdict.proofs.Gathering.{cluster_new, cluster_more}
use Rattle.sk_verdict.proofs.judgement.parts_of.Goals as goal

pub put-requires-clause-new : goal.put-requires-clause-new
put-requires-clause-new c p p_in same =
    cluster_new c.args.graph.now c.args.clusters.now c.loop-cluster.cluster-index c.cluster-item.result c.loop-cluster-test.true (sym c.cluster-item.is)
    c.loop-cluster.parts c.loop-cluster.invariant c.requires.differ p p_in (same ∙ ap (λ (q : Part). q.elements) c.in_ok-part_of.ensures)

pub loop-cluster-preserved : goal.loop-cluster-preserved
loop-cluster-preserved c =
    cluster_more c.args.graph.now c.args.clusters.now c.loop-cluster.cluster-index c.cluster-item.result c.loop-cluster-test.true (sym c.cluster-item.is)
    c.loop-cluster.parts c.loop-cluster.invariant c.in_ok-part_of.field-0 c.in_ok-part_of.ensures c.put.new.parts c.in_ok-put.ensures.in_order c.in_ok-put.ensures.has
