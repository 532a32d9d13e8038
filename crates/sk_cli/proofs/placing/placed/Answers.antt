use Rattle.sk_cli.proofs.placing.placed.Goals as goal

pub returns-in-Sixteen-clause-placement : goal.returns-in-Sixteen-clause-placement
returns-in-Sixteen-clause-placement c = rw c.in-Sixteen.is c.placed_on.ensures.placement

pub returns-in-TwentySeven-clause-placement : goal.returns-in-TwentySeven-clause-placement
returns-in-TwentySeven-clause-placement c = rw c.in-TwentySeven.is c.placed_on-in-TwentySeven.ensures.placement

pub returns-in-ThirtyEight-clause-placement : goal.returns-in-ThirtyEight-clause-placement
returns-in-ThirtyEight-clause-placement c = rw c.in-ThirtyEight.is c.placed_on-in-ThirtyEight.ensures.placement
