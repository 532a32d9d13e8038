use Rattle.sk_tolerance.proofs.Drawings.{placed_line}
use Rattle.sk_tolerance.proofs.turned.sense.Goals as goal

pub sense_drawn-requires-clause-l : goal.sense_drawn-requires-clause-l
sense_drawn-requires-clause-l c = (rw c.shape.ensures.drawn c.requires.l.1, c.shape.ensures.on_paper)

pub sense_drawn-requires-clause-m : goal.sense_drawn-requires-clause-m
sense_drawn-requires-clause-m c = (rw c.shape-2.ensures.drawn c.requires.m.1, c.shape-2.ensures.on_paper)

pub place-requires : goal.place-requires
place-requires c = (_, placed_line c.args.s.now c.args.p.now c.requires.placed c.args.l c.requires.l)

pub place-requires-2 : goal.place-requires-2
place-requires-2 c = (_, placed_line c.args.s.now c.args.p.now c.requires.placed c.args.m c.requires.m)

pub sense_placed-requires-clause-l : goal.sense_placed-requires-clause-l
sense_placed-requires-clause-l c = (let there = placed_line c.args.s.now c.args.p.now c.requires.placed c.args.l c.requires.l in rw c.place.ensures (there.has_kind, there.bounded))

pub sense_placed-requires-clause-m : goal.sense_placed-requires-clause-m
sense_placed-requires-clause-m c = (let there = placed_line c.args.s.now c.args.p.now c.requires.placed c.args.m c.requires.m in rw c.place-2.ensures (there.has_kind, there.bounded))
