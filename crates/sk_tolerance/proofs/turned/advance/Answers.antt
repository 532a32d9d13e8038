use Rattle.sk_tolerance.proofs.Drawings.{placed_point, placed_line}
use Rattle.sk_tolerance.proofs.turned.advance.Goals as goal

pub advance_drawn-requires-clause-line : goal.advance_drawn-requires-clause-line
advance_drawn-requires-clause-line c = (rw c.shape.ensures.drawn c.requires.line.1, c.shape.ensures.on_paper)

pub advance_drawn-requires-clause-p : goal.advance_drawn-requires-clause-p
advance_drawn-requires-clause-p c = (rw c.shape-2.ensures.drawn c.requires.x.1, c.shape-2.ensures.on_paper)

pub advance_drawn-requires-clause-q : goal.advance_drawn-requires-clause-q
advance_drawn-requires-clause-q c = (rw c.shape-3.ensures.drawn c.requires.y.1, c.shape-3.ensures.on_paper)

pub place-requires : goal.place-requires
place-requires c = (_, placed_line c.args.s.now c.args.p.now c.requires.placed c.args.line c.requires.line)

pub place-requires-2 : goal.place-requires-2
place-requires-2 c = (_, placed_point c.args.s.now c.args.p.now c.requires.placed c.args.x c.requires.x)

pub place-requires-3 : goal.place-requires-3
place-requires-3 c = (_, placed_point c.args.s.now c.args.p.now c.requires.placed c.args.y c.requires.y)

pub advance_placed-requires-clause-line : goal.advance_placed-requires-clause-line
advance_placed-requires-clause-line c = (let there = placed_line c.args.s.now c.args.p.now c.requires.placed c.args.line c.requires.line in rw c.place.ensures (there.has_kind, there.bounded))

pub advance_placed-requires-clause-p : goal.advance_placed-requires-clause-p
advance_placed-requires-clause-p c = (let there = placed_point c.args.s.now c.args.p.now c.requires.placed c.args.x c.requires.x in rw c.place-2.ensures (there.has_kind, there.bounded))

pub advance_placed-requires-clause-q : goal.advance_placed-requires-clause-q
advance_placed-requires-clause-q c = (let there = placed_point c.args.s.now c.args.p.now c.requires.placed c.args.y c.requires.y in rw c.place-3.ensures (there.has_kind, there.bounded))
