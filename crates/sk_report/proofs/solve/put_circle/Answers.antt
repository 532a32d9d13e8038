use Rattle.std.proofs.Math.Facts.{to_z-of_z}
use Rattle.sk_report.proofs.Appending.{four_put}
use Rattle.sk_report.proofs.solve.put_circle.Goals as goal

pub returns : goal.returns
returns c =
    let two = rw (to_z-of_z c.ranges.x, to_z-of_z c.ranges.y) at c.in_ok-put_two.ensures in
    four_put c.put.result c.args.text.now _ _ _ _ c.put_named.new.text c.put_two.new.text c.put_nanometres.new.text c.put.new.self
    c.in_ok-put_named.ensures two c.in_ok-put_nanometres.ensures c.put.ensures.ok
