use Rattle.sk_measure.proofs.Placings.{first_end, second_end, ends_fit}
use Rattle.sk_measure.proofs.holding.own_least.Goals as goal

pub place-requires : goal.place-requires
place-requires c = first_end c.args.p.now c.args.e.now.u c.args.e.now.v c.args.e.now.measure c.requires.ends

pub place-requires-2 : goal.place-requires-2
place-requires-2 c = second_end c.args.p.now c.args.e.now.u c.args.e.now.v c.args.e.now.measure c.requires.ends

pub least_of-requires-clause-fits : goal.least_of-requires-clause-fits
least_of-requires-clause-fits c = rw (c.place.ensures, c.place-2.ensures) (ends_fit c.args.p.now c.args.e.now.u c.args.e.now.v c.args.e.now.measure c.requires.ends)

pub least_of-requires-clause-u_bounded : goal.least_of-requires-clause-u_bounded
least_of-requires-clause-u_bounded c = rw c.place.ensures (first_end c.args.p.now c.args.e.now.u c.args.e.now.v c.args.e.now.measure c.requires.ends).1.bounded

pub least_of-requires-clause-v_bounded : goal.least_of-requires-clause-v_bounded
least_of-requires-clause-v_bounded c = rw c.place-2.ensures (second_end c.args.p.now c.args.e.now.u c.args.e.now.v c.args.e.now.measure c.requires.ends).1.bounded
