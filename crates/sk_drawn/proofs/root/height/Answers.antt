use Rattle.std.proofs.Common.{rules}
use Rattle.sk_drawn.proofs.Drawing.{height_few}
use Rattle.sk_drawn.proofs.root.height.Goals as goal

pub returns-clause-value : goal.returns-clause-value
returns-clause-value c = search rules

pub returns-clause-few : goal.returns-clause-few
returns-clause-few c = rw (returns-clause-value c) (height_few c.args.line.now c.args.p.now c.requires.line c.requires.p)
