use Rattle.std.proofs.Common.{arith}
use Rattle.std.proofs.lemmas.Grind.{common_steps}
use Rattle.sk_entry.proofs.BlockLines.{block_line}
use Rattle.sk_entry.proofs.write.put_block.Goals as goal

pub returns : goal.returns
returns c = rw (block_line c.args.s.now c.args.pins.now) (grind (arith, common_steps))
