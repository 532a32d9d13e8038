use Rattle.std.proofs.Common.{◌≡◌, ◌++◌, take}
use Rattle.std.specs.Prelude.{map}
use Rattle.sk_base.specs.declared.Block.{Block}
use Rattle.sk_family.specs.Body.{block_start}
use Rattle.sk_family.specs.Clusters.{start_of}
use Rattle.sk_family.proofs.start.push_blocks.Given as goal

-- the blocks so far have their clusters
abbrev pub invariant-loop-block : goal.invariant-loop-block
invariant-loop-block l = l.all.items ≡ l.initial.all.items ++ map (λ (b : Block). start_of (block_start b)) (take l.block-index l.blocks)
