use Rattle.sk_drawn.proofs.Drawing.{line_long}
use Rattle.sk_drawn.proofs.root.off_line.Goals as goal

pub nearest_root-requires-clause-some : goal.nearest_root-requires-clause-some
nearest_root-requires-clause-some c =
    rw (c.length_squared.ensures.value, c.direction.ensures.direction) (line_long c.args.line.now c.requires.line.0 c.requires.line.1)
