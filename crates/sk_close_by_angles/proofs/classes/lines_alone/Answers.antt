use Rattle.std.proofs.Common.{subst}
use Rattle.std.proofs.lemmas.List.{take_all}
use Rattle.sk_base.specs.declared.Node.{Node}
use Rattle.sk_base.specs.declared.Kind.TheVariants.{Point}
use Rattle.sk_close_by_angles.specs.Classes.{AreAlone}
use Rattle.sk_close_by_angles.proofs.Classing.{alone_more}
use Rattle.sk_close_by_angles.proofs.classes.lines_alone.Goals as goal

pub loop-node-preserved : goal.loop-node-preserved
loop-node-preserved c =
    let first : Node = record { elem = record { 0 = 0 }; kind = Point } in
    alone_more c.args.nodes.now c.loop-node.node-index first c.loop-node-test.true c.loop-node.classes.items c.add_if_line.new.classes.items c.loop-node.invariant c.in_ok-add_if_line.ensures

pub returns : goal.returns
returns c = subst (λ ns. AreAlone ns c.loop-node.classes.items) (take_all c.loop-node.node-index c.args.nodes.now c.loop-node-test.false) c.loop-node.invariant
