use Rattle.std.proofs.Common.{◌≡◌, ℕ, ◌<◌, List, length, get_or, subst, sym, refl, rules, arith}
use Rattle.std.specs.Prelude.{Contains}
use Rattle.std.proofs.lemmas.List.{take_all}
use Rattle.std.proofs.lemmas.List.Elements.{Contains-get_or}
use Rattle.sk_base.specs.declared.Block.{Block}
use Rattle.sk_base.specs.declared.Graph.{Graph}
use Rattle.sk_base.proofs.Searches.{refused}
use Rattle.sk_measure.specs.Items.{block}
use Rattle.sk_tolerance.specs.Tolerances.{rigid}
use Rattle.sk_tolerance.specs.declared.Spotted.TheVariants.{Con}
use Rattle.sk_measure.proofs.Placings.{block_measurable}
use Rattle.sk_verify.specs.AsClaimed.{HoldsAsClaimed}
use Rattle.sk_verify.specs.Failing.{AllHoldAsClaimed, IsFirstOff}
use Rattle.sk_verify.proofs.Measuring.{mapped_more, mapped_there}
use Rattle.sk_verify.proofs.holding.block_off.Goals as goal

-- the block is one of the graph
block_in : (g : Graph) (items : List Block) (i : ℕ) (b : Block) → items ≡ g.blocks → i < length items → b ≡ get_or items i b → Contains g.blocks b
block_in g items i b are inside is =
    subst (λ (bs : List Block). Contains bs b) are (subst (λ (x : Block). Contains items x) (sym is) (Contains-get_or items i b inside))

pub meets_block-requires-clause-block : goal.meets_block-requires-clause-block
meets_block-requires-clause-block c =
    (c.args.g.now, c.requires.sound, block_in c.args.g.now c.as_slice-b-items.result.now c.loop-b.b-index c.b-item.result c.as_slice-b-items.ensures c.loop-b-test.true c.b-item.is)

pub meets_block-requires-clause-placed : goal.meets_block-requires-clause-placed
meets_block-requires-clause-placed c =
    (block_measurable c.args.g.now c.args.claim.now.at c.requires.sound c.requires.placed c.b-item.result
    (block_in c.args.g.now c.as_slice-b-items.result.now c.loop-b.b-index c.b-item.result c.as_slice-b-items.ensures c.loop-b-test.true c.b-item.is)).placed

pub returns-then-not-meets_block : goal.returns-then-not-meets_block
returns-then-not-meets_block c =
    let b : Block = c.b-item.result in
    let not : ¬ HoldsAsClaimed c.args.claim.now (block b) = refused (rw c.if-not-meets_block.true at c.meets_block.ensures.1) in
    subst (λ (bs : List Block). IsFirstOff c.args.claim.now (rigid bs) (Con b.id)) c.as_slice-b-items.ensures
    (mapped_there c.args.claim.now (λ (x : Block). block x) c.as_slice-b-items.result.now c.loop-b.b-index b c.loop-b-test.true c.loop-b.invariant
    (subst (λ (x : Block). ¬ HoldsAsClaimed c.args.claim.now (block x)) c.b-item.is not)
    (Con b.id) (subst (λ (x : Block). Con x.id ≡ Con b.id) c.b-item.is refl))

pub loop-b-preserved : goal.loop-b-preserved
loop-b-preserved c =
    let b : Block = c.b-item.result in
    mapped_more c.args.claim.now (λ (x : Block). block x) c.as_slice-b-items.result.now c.loop-b.b-index b c.loop-b-test.true c.loop-b.invariant
    (subst (λ (x : Block). HoldsAsClaimed c.args.claim.now (block x)) c.b-item.is (c.meets_block.ensures.0 (search rules)))

pub returns : goal.returns
returns c = subst (λ (bs : List Block). AllHoldAsClaimed c.args.claim.now (rigid bs)) c.as_slice-b-items.ensures
    (subst (λ (bs : List Block). AllHoldAsClaimed c.args.claim.now (rigid bs)) (take_all c.loop-b.b-index c.as_slice-b-items.result.now (omega arith)) c.loop-b.invariant)
