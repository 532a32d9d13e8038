use Rattle.std.proofs.Common.{◌≡◌, ◌⊎◌, ◌++◌, ℕ, false, List, length}
use Rattle.std.specs.Prelude.{All}
use Rattle.sk_lines.specs.Lines.{is_line_feed}
use Rattle.sk_live_lines.specs.Heard.{KeepsRoom, GoesOn}
use Rattle.sk_live_lines.proofs.hearing.Hearing.hear.Given as goal

abbrev pub invariant-loop-after : goal.invariant-loop-after
invariant-loop-after g l = record {
  taken : l.self.taken ≡ l.fn.self.taken;
  front : List ℕ;
  cut : l.fn.piece ≡ front ++ l.rest;
  goes_on : GoesOn g.R.Replier.replies l.fn.self.kept l.fn.replier (g.K.Sink.written l.fn.sink) l.self.kept l.replier (g.K.Sink.written l.sink) front;
  room : KeepsRoom g.R.Replier.replies l.fn.self.kept l.fn.replier (g.K.Sink.sure_room l.fn.sink) l.self.kept l.replier (g.K.Sink.sure_room l.sink) front;
  steady : g.K.Sink.is_steady l.fn.sink → g.K.Sink.is_steady l.sink;
  handed_on : All (λ b. is_line_feed b ≡ false) front ⊎ g.K.Sink.is_flushed l.sink;
  flushed : g.K.Sink.is_flushed l.fn.sink → g.K.Sink.is_flushed l.sink;
  kept : g.K.Sink.faults l.sink ≡ g.K.Sink.faults l.fn.sink;
}

abbrev pub decreases-loop-after : goal.decreases-loop-after
decreases-loop-after g l = length l.rest
