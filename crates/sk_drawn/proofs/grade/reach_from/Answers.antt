use Rattle.std.proofs.Common.{◌≤◌, arith}
use Rattle.sk_drawn.proofs.Drawing.{line_long}
use Rattle.sk_drawn.proofs.grade.reach_from.Goals as goal

pub nonzero_div-result : goal.nonzero_div-result
nonzero_div-result c =
    let long : 1 ≤ c.length_squared.result = rw (c.length_squared.ensures.value, c.direction.ensures.direction) (line_long c.args.line.now c.requires.line.0 c.requires.line.1) in
    omega (arith, long)
