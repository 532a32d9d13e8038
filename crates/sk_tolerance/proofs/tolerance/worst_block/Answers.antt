use Rattle.std.proofs.Common.{subst, sym, arith}
use Rattle.std.specs.Prelude.{Contains}
use Rattle.std.proofs.lemmas.List.Elements.{Contains-get_or}
use Rattle.sk_base.specs.declared.Block.{Block}
use Rattle.sk_tolerance.proofs.tolerance.worst_block.Goals as goal

pub loop-b-init : goal.loop-b-init
loop-b-init c = c.none-worst.ensures c.args.p.now

pub with_block-worst-requires : goal.with_block-worst-requires
with_block-worst-requires c =
    let b : Block = c.b-item.result in
    c.requires b (subst (λ (x : Block). Contains c.args.blocks.now x) (sym c.b-item.is) (Contains-get_or c.args.blocks.now c.loop-b.b-index b (omega arith)))
