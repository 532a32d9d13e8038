use Rattle.std.proofs.Common.{FitsSigned, to_z-of_z, arith}
use Rattle.std.specs.Int.{w64}
use Rattle.sk_measure.specs.WithSign.{with_sign}
use Rattle.sk_measure.specs.Items.{constraint}
use Rattle.sk_measure.proofs.Placings.{first_end, second_end, ends_fit}
use Rattle.sk_measure.proofs.Reach.{own_reach}
use Rattle.sk_measure.proofs.Signing.{signed_off, sign_fits, less_missed}
use Rattle.sk_measure.proofs.holding.own_off.Goals as goal

pub place-requires : goal.place-requires
place-requires c = first_end c.args.p.now c.args.e.now.u c.args.e.now.v c.args.e.now.measure c.requires.ends

pub place-requires-2 : goal.place-requires-2
place-requires-2 c = second_end c.args.p.now c.args.e.now.u c.args.e.now.v c.args.e.now.measure c.requires.ends

pub falls_short-short-requires-clause-fits : goal.falls_short-short-requires-clause-fits
falls_short-short-requires-clause-fits c = rw (c.place.ensures, c.place-2.ensures) (ends_fit c.args.p.now c.args.e.now.u c.args.e.now.v c.args.e.now.measure c.requires.ends)

pub falls_short-short-requires-clause-u_bounded : goal.falls_short-short-requires-clause-u_bounded
falls_short-short-requires-clause-u_bounded c = rw c.place.ensures (first_end c.args.p.now c.args.e.now.u c.args.e.now.v c.args.e.now.measure c.requires.ends).1.bounded

pub falls_short-short-requires-clause-v_bounded : goal.falls_short-short-requires-clause-v_bounded
falls_short-short-requires-clause-v_bounded c = rw c.place-2.ensures (second_end c.args.p.now c.args.e.now.u c.args.e.now.v c.args.e.now.measure c.requires.ends).1.bounded

pub with_sign-requires : goal.with_sign-requires
with_sign-requires c = (let few = own_reach c.args.p.now c.args.e.now c.requires c.own_least.result c.own_least.ensures in omega (arith, few))

pub returns : goal.returns
returns c =
    let few = own_reach c.args.p.now c.args.e.now c.requires c.own_least.result c.own_least.ensures in
    let fits : FitsSigned w64 (with_sign c.falls_short-short.result c.own_least.result) = sign_fits c.falls_short-short.result c.own_least.result few in
    rw c.with_sign.ensures
    (simp to_z-of_z
    (signed_off c.args.p.now (constraint c.args.e.now) c.own_least.result c.own_least.ensures c.falls_short-short.result
    (rw (c.place.ensures, c.place-2.ensures) at c.falls_short-short.ensures) (less_missed c.args.p.now c.args.e.now)))
