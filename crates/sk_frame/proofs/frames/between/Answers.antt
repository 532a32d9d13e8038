use Rattle.sk_orient.proofs.Products.{way_short}
use Rattle.sk_frame.proofs.frames.between.Goals as goal

pub returns-clause-short : goal.returns-clause-short
returns-clause-short c = rw c.way.ensures.way (way_short 1000000000 c.args.from c.args.to c.requires.from c.requires.to)
