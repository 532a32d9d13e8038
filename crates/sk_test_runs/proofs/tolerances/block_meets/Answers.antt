use Rattle.std.proofs.Common.{List, sym, subst}
use Rattle.std.specs.Prelude.{Contains}
use Rattle.std.proofs.lemmas.List.Elements.{Contains-get_or}
use Rattle.sk_base.specs.declared.Block.{Block}
use Rattle.sk_measure.proofs.Placings.{block_measurable}
use Rattle.sk_test_runs.proofs.tolerances.block_meets.Goals as goal

block_inside : (c : goal.After-index-as_slice-i) → Contains c.args.graph.now.blocks c.index-as_slice-i.result
block_inside c =
    let b : Block = c.index-as_slice-i.result in
    subst (λ (xs : List Block). Contains xs b) c.as_slice.ensures
    (subst (λ (x : Block). Contains c.as_slice.result.now x) (sym c.index-as_slice-i.is)
    (Contains-get_or c.as_slice.result.now c.args.i b (rw c.as_slice.ensures c.requires.inside)))

pub meets_block-requires-clause-block : goal.meets_block-requires-clause-block
meets_block-requires-clause-block c = (c.args.graph.now, c.requires.sound, block_inside c)

pub meets_block-requires-clause-placed : goal.meets_block-requires-clause-placed
meets_block-requires-clause-placed c = (block_measurable c.args.graph.now c.args.at.now c.requires.sound c.requires.placed _ (block_inside c)).placed
