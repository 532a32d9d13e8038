use Rattle.std.proofs.Common.{List, ap, ◌∙◌}
use Rattle.std.proofs.lemmas.Result.{IfOk-weaker}
use Rattle.sk_base.specs.declared.Elem.{Elem}
use Rattle.sk_family.specs.Clusters.{start_of}
use Rattle.sk_family.proofs.GraphStarts.{both_ends}
use Rattle.sk_family.proofs.start.edge_cluster.Goals as goal

pub returns : goal.returns
returns c =
    let ends = c.in_ok-ends.ensures ∙ both_ends c.args.edge.now.u c.args.edge.now.v in
    IfOk-weaker c.cluster_of.result _ _ (λ x is. is ∙ ap (λ (xs : List Elem). start_of (record { number = c.args.edge.now.id; elements = xs })) ends) c.cluster_of.ensures
