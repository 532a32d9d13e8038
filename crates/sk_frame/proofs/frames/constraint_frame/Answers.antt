use Rattle.std.proofs.Common.{sym}
use Rattle.sk_steps.proofs.SoundMeasures.{edge_measured}
use Rattle.sk_frame.proofs.Edges.{block_pins}
use Rattle.sk_frame.proofs.frames.constraint_frame.Goals as goal

pub edge_frame-requires-clause-measure : goal.edge_frame-requires-clause-measure
edge_frame-requires-clause-measure c = edge_measured c.args.g.now c.requires.graph c.args.number.0 c.in-Some.edge.now (sym c.in-Some.ensures)

pub block_frame-requires-clause-pins : goal.block_frame-requires-clause-pins
block_frame-requires-clause-pins c = rw c.as_slice.ensures (block_pins c.args.g.now c.requires.graph c.args.number.0 c.in-Some-block.block.now (sym c.in-Some-block.ensures))
