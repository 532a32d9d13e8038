use Rattle.std.proofs.Common.{List, get_or, subst, arith}
use Rattle.std.specs.Prelude.{Contains}
use Rattle.std.proofs.lemmas.List.{take_all}
use Rattle.std.proofs.lemmas.List.Elements.{Contains-get_or}
use Rattle.sk_base.specs.declared.Node.{Node}
use Rattle.sk_tolerance.specs.Tolerances.{normals, normal_of_kind}
use Rattle.sk_measure.proofs.Placings.{any_node}
use Rattle.sk_verify.specs.Failing.{AllHoldAsClaimed, IsFirstOff}
use Rattle.sk_verify.proofs.Measuring.{hold_more, off_there}
use Rattle.sk_verify.proofs.holding.line_off.Goals as goal

pub normal_off-requires : goal.normal_off-requires
normal_off-requires c =
    let n : Node = get_or c.as_slice-node-items.result.now c.loop-node.node-index any_node in
    c.requires.nodes n (subst (λ (ns : List Node). Contains ns n) c.as_slice-node-items.ensures (Contains-get_or c.as_slice-node-items.result.now c.loop-node.node-index any_node (omega arith)))

pub returns-in-Some : goal.returns-in-Some
returns-in-Some c = subst (λ (ns : List Node). IsFirstOff c.args.claim.now (normals ns) c.in-Some.at) c.as_slice-node-items.ensures
    (off_there c.args.claim.now (λ (n : Node). normal_of_kind n.elem n.kind) c.as_slice-node-items.result.now c.loop-node.node-index any_node (omega arith) c.in-Some.at c.loop-node.invariant c.in-Some.ensures)

pub loop-node-preserved : goal.loop-node-preserved
loop-node-preserved c =
    hold_more c.args.claim.now (λ (n : Node). normal_of_kind n.elem n.kind) c.as_slice-node-items.result.now c.loop-node.node-index any_node (omega arith) c.loop-node.invariant c.in_default.ensures

pub returns : goal.returns
returns c = subst (λ (ns : List Node). AllHoldAsClaimed c.args.claim.now (normals ns)) c.as_slice-node-items.ensures
    (subst (λ (ns : List Node). AllHoldAsClaimed c.args.claim.now (normals ns)) (take_all c.loop-node.node-index c.as_slice-node-items.result.now (omega arith)) c.loop-node.invariant)
