use Rattle.std.proofs.Common.{◌≡◌, ◌≤◌, ◌-◌, [], ℕ, List, length}
use Rattle.std.specs.Io.KnownBytes.{Consumes}
use Rattle.sk_io.specs.Reads.{AfterReads}
use Rattle.sk_live_lines.specs.Heard.{GoesOn, KeepsRoom}
use Rattle.sk_cli.specs.LiveAnswer.{begun, IsSaid}
use Rattle.sk_cli.proofs.live.live.Given as goal

abbrev pub invariant-loop-end : goal.invariant-loop-end
invariant-loop-end g l = record {
  taken : List ℕ;
  takes : Consumes (g.S.Source.left l.fn.source) (g.S.Source.left l.source) taken;
  count : l.hearing.taken ≡ length taken;
  turns : ℕ;
  read_on : AfterReads g.S.Source.is_read_on turns l.fn.source l.source;
  bound : l.hearing.taken ≤ 4294967295;
  goes_on : GoesOn IsSaid [] (begun l.fn.request) (g.K.Sink.written l.fn.sink) l.hearing.kept l.sitting (g.K.Sink.written l.sink) taken;
  room : KeepsRoom IsSaid [] (begun l.fn.request) (g.K.Sink.sure_room l.fn.sink) l.hearing.kept l.sitting (g.K.Sink.sure_room l.sink) taken;
  steady : g.K.Sink.is_steady l.fn.sink → g.K.Sink.is_steady l.sink;
  flushed : g.K.Sink.is_flushed l.fn.sink → g.K.Sink.is_flushed l.sink;
  sure : g.S.Source.is_sure l.fn.source → g.S.Source.is_sure l.source;
  read_kept : g.S.Source.faults l.source ≡ g.S.Source.faults l.fn.source;
  write_kept : g.K.Sink.faults l.sink ≡ g.K.Sink.faults l.fn.sink;
}

abbrev pub decreases-loop-end : goal.decreases-loop-end
decreases-loop-end g l = 4294967295 - l.hearing.taken
