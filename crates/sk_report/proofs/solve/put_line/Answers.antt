use Rattle.std.proofs.Math.Facts.{to_z-of_z}
use Rattle.sk_report.proofs.Appending.{three_put}
use Rattle.sk_report.proofs.solve.put_line.Goals as goal

pub returns : goal.returns
returns c =
    let three = rw (to_z-of_z c.ranges.a, to_z-of_z c.ranges.b, to_z-of_z c.ranges.c) at c.in_ok-put_three.ensures in
    three_put c.put.result c.args.text.now _ _ _ c.put_named.new.text c.put_three.new.text c.put.new.self
    c.in_ok-put_named.ensures three c.put.ensures.ok
