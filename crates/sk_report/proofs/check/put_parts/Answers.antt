use Rattle.sk_report.proofs.PartLines.{next_part_line}
use Rattle.sk_report.proofs.check.put_parts.Goals as goal

pub loop-i-preserved : goal.loop-i-preserved
loop-i-preserved c =
    next_part_line c.args.s.now c.args.parts.now c.loop-i.i c.index-parts-i.result c.loop-i.text c.put_part.new.text _
    c.loop-i-test.true c.index-parts-i.is c.in_ok-put_part.ensures c.loop-i.invariant
