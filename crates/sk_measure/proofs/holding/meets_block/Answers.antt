use Rattle.std.proofs.Common.{◌≤◌, arith}
use Rattle.std.proofs.lemmas.Bool.Decides.{nat_tests}
use Rattle.sk_measure.specs.Items.{block}
use Rattle.sk_measure.proofs.Widening.{holds_more}
use Rattle.sk_measure.proofs.holding.meets_block.Goals as goal

pub own_least_of_block-requires : goal.own_least_of_block-requires
own_least_of_block-requires c =
    let of = c.requires.block in
    record { on_sheet = (of.1.blocks_sound c.args.b.now of.2).pins.on_sheet; placed = c.requires.placed }

pub returns : goal.returns
returns c = (
  λ is. (let least = c.own_least_of_block.result in let le : least ≤ c.args.t = grind (arith, nat_tests) in holds_more c.args.p.now (block c.args.b.now) least c.args.t le c.own_least_of_block.ensures.holds),
  λ holds. (let le : c.own_least_of_block.result ≤ c.args.t = c.own_least_of_block.ensures.least c.args.t holds in grind (arith, nat_tests)),
)
