use Rattle.sk_family.specs.Body.{block_start}
use Rattle.sk_family.proofs.GraphStarts.{block_rises}
use Rattle.sk_family.proofs.Starting.{when_put}
use Rattle.sk_family.proofs.family.Family.adopt_block.Goals as goal

pub put_start-requires-clause-start : goal.put_start-requires-clause-start
put_start-requires-clause-start c = (block_start c.args.block.now, c.in_ok-start.ensures, block_rises c.args.block.now, c.requires.free)

pub returns-clause-ok : goal.returns-clause-ok
returns-clause-ok c = when_put c.put_start.result (block_start c.args.block.now) _ _ _ c.in_ok-start.ensures c.put_start.ensures.ok
