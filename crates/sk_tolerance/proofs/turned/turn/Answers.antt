use Rattle.sk_tolerance.proofs.Drawings.{placed_point}
use Rattle.sk_tolerance.proofs.turned.turn.Goals as goal

pub turn_drawn-requires-clause-p : goal.turn_drawn-requires-clause-p
turn_drawn-requires-clause-p c = (rw c.shape.ensures.drawn c.requires.x.1, c.shape.ensures.on_paper)

pub turn_drawn-requires-clause-q : goal.turn_drawn-requires-clause-q
turn_drawn-requires-clause-q c = (rw c.shape-2.ensures.drawn c.requires.y.1, c.shape-2.ensures.on_paper)

pub turn_drawn-requires-clause-r : goal.turn_drawn-requires-clause-r
turn_drawn-requires-clause-r c = (rw c.shape-3.ensures.drawn c.requires.z.1, c.shape-3.ensures.on_paper)

pub place-requires : goal.place-requires
place-requires c = (_, placed_point c.args.s.now c.args.p.now c.requires.placed c.args.x c.requires.x)

pub place-requires-2 : goal.place-requires-2
place-requires-2 c = (_, placed_point c.args.s.now c.args.p.now c.requires.placed c.args.y c.requires.y)

pub place-requires-3 : goal.place-requires-3
place-requires-3 c = (_, placed_point c.args.s.now c.args.p.now c.requires.placed c.args.z c.requires.z)

pub turn_placed-requires-clause-p : goal.turn_placed-requires-clause-p
turn_placed-requires-clause-p c = (let there = placed_point c.args.s.now c.args.p.now c.requires.placed c.args.x c.requires.x in rw c.place.ensures (there.has_kind, there.bounded))

pub turn_placed-requires-clause-q : goal.turn_placed-requires-clause-q
turn_placed-requires-clause-q c = (let there = placed_point c.args.s.now c.args.p.now c.requires.placed c.args.y c.requires.y in rw c.place-2.ensures (there.has_kind, there.bounded))

pub turn_placed-requires-clause-r : goal.turn_placed-requires-clause-r
turn_placed-requires-clause-r c = (let there = placed_point c.args.s.now c.args.p.now c.requires.placed c.args.z c.requires.z in rw c.place-3.ensures (there.has_kind, there.bounded))
