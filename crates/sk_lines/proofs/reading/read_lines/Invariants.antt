use Rattle.std.proofs.Common.{length}
use Rattle.sk_lines.specs.Lines.{lines_in}
use Rattle.sk_lines.proofs.Leading.{HasLed}
use Rattle.sk_lines.proofs.reading.read_lines.Given as goal

abbrev pub invariant-loop-rest : goal.invariant-loop-rest
invariant-loop-rest g l = HasLed (g.R.LineReader.code_of l.reader) (g.R.LineReader.adds l.reader) l.fn.start (lines_in l.bytes) (lines_in l.rest) l.so_far l.first l.number

abbrev pub decreases-loop-rest : goal.decreases-loop-rest
decreases-loop-rest g l = length l.rest
