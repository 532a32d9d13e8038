use Rattle.sk_measure.proofs.Placings.{first_end, second_end, ends_fit, moderate_of}
use Rattle.sk_measure.proofs.holding.meets.Goals as goal

pub place-requires : goal.place-requires
place-requires c = first_end c.args.p.now c.args.e.now.u c.args.e.now.v c.args.e.now.measure c.requires.placed

pub place-requires-2 : goal.place-requires-2
place-requires-2 c = second_end c.args.p.now c.args.e.now.u c.args.e.now.v c.args.e.now.measure c.requires.placed

pub is_met-requires-clause-fits : goal.is_met-requires-clause-fits
is_met-requires-clause-fits c = rw (c.place.ensures, c.place-2.ensures) (ends_fit c.args.p.now c.args.e.now.u c.args.e.now.v c.args.e.now.measure c.requires.placed)

pub is_met-requires-clause-moderate : goal.is_met-requires-clause-moderate
is_met-requires-clause-moderate c =
    let in_graph = c.requires.edge in
    moderate_of in_graph.0 c.args.e.now.u c.args.e.now.v c.args.e.now.measure (in_graph.1.edges_measure c.args.e.now in_graph.2)

pub is_met-requires-clause-u_bounded : goal.is_met-requires-clause-u_bounded
is_met-requires-clause-u_bounded c = rw c.place.ensures (first_end c.args.p.now c.args.e.now.u c.args.e.now.v c.args.e.now.measure c.requires.placed).1.bounded

pub is_met-requires-clause-v_bounded : goal.is_met-requires-clause-v_bounded
is_met-requires-clause-v_bounded c = rw c.place-2.ensures (second_end c.args.p.now c.args.e.now.u c.args.e.now.v c.args.e.now.measure c.requires.placed).1.bounded
