use Rattle.std.proofs.Common.{refl}
use Rattle.sk_base.proofs.Searches.{refused}
use Rattle.sk_measure.specs.Items.{normal}
use Rattle.sk_tolerance.specs.declared.Spotted.TheVariants.{Line}
use Rattle.sk_verify.proofs.Measuring.{off_one}
use Rattle.sk_verify.proofs.holding.normal_off.Goals as goal

pub returns-else-meets_normal : goal.returns-else-meets_normal
returns-else-meets_normal c = rw c.in-Line.is (off_one c.args.claim.now (normal c.args.node.now.elem) (Line c.args.node.now.elem) refl (refused (rw c.if-meets_normal.false at c.meets_normal.ensures.1)))
