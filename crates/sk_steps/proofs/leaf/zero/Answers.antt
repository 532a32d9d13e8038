use Rattle.std.proofs.Common.{sym, lit≤}
use Rattle.sk_steps.proofs.LeafLemmas.{whole-ok}
use Rattle.sk_steps.proofs.leaf.zero.Goals as goal

pub returns-clause-length : goal.returns-clause-length
returns-clause-length g c = rw c.whole.ensures.value (sym (whole-ok 40 g.G.Grid.BITS 0 (lit≤ tt)))

pub returns-clause-normal : goal.returns-clause-normal
returns-clause-normal g c = rw c.whole.ensures.value (sym (whole-ok 1 g.G.Grid.BITS 0 (lit≤ tt)))
