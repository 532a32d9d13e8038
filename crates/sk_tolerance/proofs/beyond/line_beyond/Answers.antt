use Rattle.std.proofs.Common.{List, get_or, subst, arith}
use Rattle.std.proofs.lemmas.List.{take_all}
use Rattle.std.proofs.lemmas.List.Elements.{Contains-get_or}
use Rattle.sk_base.specs.declared.Node.{Node}
use Rattle.sk_tolerance.specs.Tolerances.{AllHold, normals, normal_of_kind}
use Rattle.sk_measure.proofs.Placings.{any_node}
use Rattle.sk_tolerance.proofs.Passings.{all_hold_more, beyond_there}
use Rattle.sk_tolerance.proofs.beyond.line_beyond.Goals as goal

pub normal_beyond-requires : goal.normal_beyond-requires
normal_beyond-requires c = c.requires (get_or c.args.nodes.now c.loop-node.node-index any_node) (Contains-get_or c.args.nodes.now c.loop-node.node-index any_node (omega arith))

pub returns-in-Some : goal.returns-in-Some
returns-in-Some c =
    beyond_there c.args.p.now c.args.limit (λ (n : Node). normal_of_kind n.elem n.kind) c.args.nodes.now c.loop-node.node-index any_node (omega arith) c.in-Some.beyond c.loop-node.invariant c.in-Some.ensures

pub loop-node-preserved : goal.loop-node-preserved
loop-node-preserved c =
    all_hold_more c.args.p.now c.args.limit (λ (n : Node). normal_of_kind n.elem n.kind) c.args.nodes.now c.loop-node.node-index any_node (omega arith) c.loop-node.invariant c.in_default.ensures

pub returns : goal.returns
returns c = subst (λ (xs : List Node). AllHold c.args.p.now (normals xs) c.args.limit) (take_all c.loop-node.node-index c.args.nodes.now (omega arith)) c.loop-node.invariant
