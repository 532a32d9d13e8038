use Rattle.std.proofs.Common.{sym, ◌∙◌, ap}
use Rattle.std.proofs.lemmas.Result.{IfOk-weaker}
use Rattle.sk_family.specs.Clusters.{start_of}
use Rattle.sk_family.proofs.GraphStarts.{with_edge, with_block, with_none}
use Rattle.sk_family.proofs.start.cluster_with.Goals as goal

pub unreachable-requires : goal.unreachable-requires
unreachable-requires c =
    let there = c.requires.there in
    with_none c.args.graph.now c.requires.rise c.args.number (sym c.in-None.ensures) (sym c.in-None-block.ensures) there.0 there.1 there.2

pub returns-in-Some : goal.returns-in-Some
returns-in-Some c =
    let same = with_edge c.args.graph.now c.requires.rise c.args.number c.in-Some.edge.now (sym c.in-Some.ensures) in
    IfOk-weaker c.edge_cluster.result _ _ (λ x is. is ∙ ap start_of (sym same)) c.edge_cluster.ensures

pub returns-in-Some-block : goal.returns-in-Some-block
returns-in-Some-block c =
    let there = c.requires.there in
    let same = with_block c.args.graph.now c.requires.rise c.args.number c.requires.blocks_rise (sym c.in-None.ensures) c.in-Some-block.block.now (sym c.in-Some-block.ensures) there.0 there.1 there.2 in
    IfOk-weaker c.block_cluster.result _ _ (λ x is. is ∙ ap start_of (sym same)) c.block_cluster.ensures
