use Rattle.sk_steps.proofs.KindLemmas.{box_of-kind}
use Rattle.sk_steps.proofs.NestingLemmas.{third_element-Keeps}
use Rattle.sk_steps.proofs.third.third_element.Goals as goal

pub returns-clause-kind : goal.returns-clause-kind
returns-clause-kind g c = rw c.construct.ensures (box_of-kind _ _ _ _)

pub returns-clause-nested : goal.returns-clause-nested
returns-clause-nested g c k fine inside =
    rw c.construct.ensures (third_element-Keeps _ _ g.G.Grid.BITS k fine c.args.g.now inside)
