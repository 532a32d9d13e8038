use Rattle.std.proofs.Common.{FitsSigned, to_z-of_z, arith}
use Rattle.std.specs.Int.{w64}
use Rattle.sk_measure.specs.WithSign.{with_sign}
use Rattle.std.specs.Prelude.{false}
use Rattle.sk_measure.specs.Items.{block}
use Rattle.sk_measure.proofs.Reach.{block_reach}
use Rattle.sk_measure.proofs.Signing.{signed_off, sign_fits}
use Rattle.sk_measure.proofs.holding.own_off_of_block.Goals as goal

pub with_sign-requires : goal.with_sign-requires
with_sign-requires c = (let few = block_reach c.args.p.now c.args.b.now c.requires c.own_least_of_block.result c.own_least_of_block.ensures in omega (arith, few))

pub returns : goal.returns
returns c =
    let few = block_reach c.args.p.now c.args.b.now c.requires c.own_least_of_block.result c.own_least_of_block.ensures in
    let fits : FitsSigned w64 (with_sign false c.own_least_of_block.result) = sign_fits false c.own_least_of_block.result (omega (arith, few)) in
    rw c.with_sign.ensures
    (simp to_z-of_z
    (signed_off c.args.p.now (block c.args.b.now) c.own_least_of_block.result c.own_least_of_block.ensures false ((λ is. absurd (cc)), (λ less. absurd less)) (λ less. absurd less)))
