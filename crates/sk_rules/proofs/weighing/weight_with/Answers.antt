use Rattle.std.proofs.Common.{sym, ◌∙◌}
use Rattle.sk_rules.proofs.Weighings.{block_pins, with_block, without_block}
use Rattle.sk_rules.proofs.weighing.weight_with.Goals as goal

pub block_weight-requires : goal.block_weight-requires
block_weight-requires c = block_pins c.args.graph.now c.requires.sound c.args.number c.in-Some.block.now (sym c.in-Some.ensures)

pub returns-in-Some-clause-weight : goal.returns-in-Some-clause-weight
returns-in-Some-clause-weight c = c.block_weight.ensures.weight ∙ with_block c.args.graph.now c.requires.sound c.args.number c.in-Some.block.now (sym c.in-Some.ensures)

pub returns-in-None-clause-weight : goal.returns-in-None-clause-weight
returns-in-None-clause-weight c =
    let there = c.requires.there in
    without_block c.args.graph.now c.requires.sound c.args.number (sym c.in-None.ensures) there.0 there.1 there.2
