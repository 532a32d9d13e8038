use Rattle.sk_frame.proofs.Digits.{highest}
use Rattle.sk_frame.proofs.scaling.highest_digit.Goals as goal

pub returns-clause-below : goal.returns-clause-below
returns-clause-below c = (highest c.args.m c.requires.positive c.requires.few).below

pub returns-clause-above : goal.returns-clause-above
returns-clause-above c = (highest c.args.m c.requires.positive c.requires.few).above

pub returns-clause-few : goal.returns-clause-few
returns-clause-few c = (highest c.args.m c.requires.positive c.requires.few).few
