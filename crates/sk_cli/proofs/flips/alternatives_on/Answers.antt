use Rattle.sk_cli.proofs.flips.alternatives_on.Goals as goal

pub returns-in-Sixteen : goal.returns-in-Sixteen
returns-in-Sixteen c = rw c.in-Sixteen.is c.alternatives.ensures

pub returns-in-TwentySeven : goal.returns-in-TwentySeven
returns-in-TwentySeven c = rw c.in-TwentySeven.is c.alternatives-in-TwentySeven.ensures

pub returns-in-ThirtyEight : goal.returns-in-ThirtyEight
returns-in-ThirtyEight c = rw c.in-ThirtyEight.is c.alternatives-in-ThirtyEight.ensures
