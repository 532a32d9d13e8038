use Rattle.sk_lines.specs.Lines.{lines_in}
use Rattle.sk_lines.proofs.Leading.{led_next}
use Rattle.sk_lines.proofs.reading.read_lines.Goals as goal

pub loop-rest-preserved : goal.loop-rest-preserved
loop-rest-preserved g c =
    led_next (g.R.LineReader.code_of c.args.reader.now) (g.R.LineReader.adds c.args.reader.now) c.args.start (lines_in c.args.bytes.now) (lines_in c.loop-rest.rest.now) c.split_line.result.0.now (lines_in c.split_line.result.1.now)
    c.loop-rest.so_far c.in-Ok.further c.args.first c.loop-rest.number c.loop-rest.invariant c.split_line.ensures.lines c.in-Ok.ensures.adds
