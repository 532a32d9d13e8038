use Rattle.std.proofs.Common.{sym, lit≤}
use Rattle.sk_steps.proofs.LeafLemmas.{whole-ok}
use Rattle.sk_steps.proofs.leaf.one.Goals as goal

pub returns : goal.returns
returns g c = rw c.whole.ensures.value (sym (whole-ok 1 g.G.Grid.BITS 1 (lit≤ tt)))
