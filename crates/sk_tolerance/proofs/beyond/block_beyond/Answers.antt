use Rattle.std.proofs.Common.{List, subst, sym, refl, arith}
use Rattle.std.proofs.lemmas.List.{take_all}
use Rattle.std.proofs.lemmas.List.Elements.{Contains-get_or}
use Rattle.std.specs.Prelude.{Contains, [], ◌∷◌}
use Rattle.sk_base.specs.declared.Block.{Block}
use Rattle.sk_measure.specs.Items.{block}
use Rattle.sk_tolerance.specs.Tolerances.{rigid, AllHold, IsFirstBeyond}
use Rattle.sk_tolerance.proofs.Passings.{mapped_more, mapped_there}
use Rattle.sk_tolerance.proofs.beyond.block_beyond.Goals as goal

pub own_least_of_block-requires : goal.own_least_of_block-requires
own_least_of_block-requires c =
    let b : Block = c.b-item.result in
    c.requires b (subst (λ (x : Block). Contains c.args.blocks.now x) (sym c.b-item.is) (Contains-get_or c.args.blocks.now c.loop-b.b-index b (omega arith)))

pub returns-in-Some : goal.returns-in-Some
returns-in-Some c =
    let b : Block = c.b-item.result in
    mapped_there c.args.p.now c.args.limit (λ (x : Block). block x) c.args.blocks.now c.loop-b.b-index b (omega arith) c.in-Some.beyond c.loop-b.invariant
    (subst (λ (x : Block). IsFirstBeyond c.args.p.now (block x ∷ []) c.args.limit c.in-Some.beyond) c.b-item.is (c.in-Some.ensures c.args.p.now (block b) c.own_least_of_block.ensures refl))

pub loop-b-preserved : goal.loop-b-preserved
loop-b-preserved c =
    let b : Block = c.b-item.result in
    mapped_more c.args.p.now c.args.limit (λ (x : Block). block x) c.args.blocks.now c.loop-b.b-index b (omega arith) c.loop-b.invariant
    (subst (λ (x : Block). AllHold c.args.p.now (block x ∷ []) c.args.limit) c.b-item.is (c.in_default.ensures c.args.p.now (block b) c.own_least_of_block.ensures refl))

pub returns : goal.returns
returns c = subst (λ (xs : List Block). AllHold c.args.p.now (rigid xs) c.args.limit) (take_all c.loop-b.b-index c.args.blocks.now (omega arith)) c.loop-b.invariant
