use Rattle.sk_steps.proofs.KindLemmas.{leaf-AreMeasured}
use Rattle.sk_steps.proofs.NestingLemmas.{leaf-inside}
use Rattle.sk_steps.proofs.leaf.leaf_boxes.Goals as goal

pub returns-clause-kinds : goal.returns-clause-kinds
returns-clause-kinds g c = leaf-AreMeasured _ g.G.Grid.BITS c.args.e.now.measure c.frame.result c.frame.ensures

pub returns-clause-nested : goal.returns-clause-nested
returns-clause-nested g c k = leaf-inside _ _ g.G.Grid.BITS k c.args.e.now.measure c.frame.result c.frame.ensures
