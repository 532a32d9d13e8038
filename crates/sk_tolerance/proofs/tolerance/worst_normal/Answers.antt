use Rattle.std.proofs.Common.{get_or, arith}
use Rattle.std.proofs.lemmas.List.Elements.{Contains-get_or}
use Rattle.sk_measure.proofs.Placings.{any_node}
use Rattle.sk_tolerance.proofs.tolerance.worst_normal.Goals as goal

pub loop-node-init : goal.loop-node-init
loop-node-init c = c.none-worst.ensures c.args.p.now

pub with_normal-worst-requires : goal.with_normal-worst-requires
with_normal-worst-requires c = c.requires (get_or c.args.nodes.now c.loop-node.node-index any_node) (Contains-get_or c.args.nodes.now c.loop-node.node-index any_node (omega arith))
