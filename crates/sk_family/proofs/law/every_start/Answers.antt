use Rattle.sk_family.proofs.GraphStarts.{start_comes, starts_exactly, starts_rise, edges_alone}
use Rattle.sk_family.proofs.law.every_start.Goals as goal

pub returns-clause-rise : goal.returns-clause-rise
returns-clause-rise c g sound = starts_rise g sound.edges_rise

pub returns-clause-exact : goal.returns-clause-exact
returns-clause-exact c g sound s = (start_comes g s, starts_exactly g sound.blocks_rise sound.blocks_apart s)

pub returns-clause-without_blocks : goal.returns-clause-without_blocks
returns-clause-without_blocks c g no_blocks = edges_alone g no_blocks
