use Rattle.std.proofs.Common.{◌≡◌, length}
use Rattle.sk_lines.specs.Lines.{lines_in}
use Rattle.sk_cli.proofs.Sessions.{HasGained}
use Rattle.sk_cli.proofs.session.session.Given as goal

abbrev pub invariant-loop-rest : goal.invariant-loop-rest
invariant-loop-rest g l = record {
  gained : HasGained l.request l.bytes (lines_in l.rest) l.session (g.K.Sink.written l.fn.sink) (g.K.Sink.written l.sink) (g.K.Sink.sure_room l.fn.sink) (g.K.Sink.sure_room l.sink);
  kept : g.K.Sink.faults l.sink ≡ g.K.Sink.faults l.fn.sink;
}

abbrev pub decreases-loop-rest : goal.decreases-loop-rest
decreases-loop-rest g l = length l.rest
