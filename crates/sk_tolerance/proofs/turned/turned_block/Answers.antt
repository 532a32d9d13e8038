use Rattle.std.proofs.Common.{sym}
use Rattle.sk_tolerance.proofs.Threes.{measurable_corners}
use Rattle.sk_tolerance.proofs.turned.turned_block.Goals as goal

pub block_turn-requires-clause-a : goal.block_turn-requires-clause-a
block_turn-requires-clause-a c = (measurable_corners c.args.p.now c.args.pins.now (c.in-Some.a, c.in-Some.b, c.in-Some.c) c.requires (sym c.in-Some.ensures)).0

pub block_turn-requires-clause-b : goal.block_turn-requires-clause-b
block_turn-requires-clause-b c = (measurable_corners c.args.p.now c.args.pins.now (c.in-Some.a, c.in-Some.b, c.in-Some.c) c.requires (sym c.in-Some.ensures)).1

pub block_turn-requires-clause-c : goal.block_turn-requires-clause-c
block_turn-requires-clause-c c = (measurable_corners c.args.p.now c.args.pins.now (c.in-Some.a, c.in-Some.b, c.in-Some.c) c.requires (sym c.in-Some.ensures)).2
