use Rattle.std.proofs.Common.{◌≡◌, ℕ, ◌-◌, ◌≤◌, length}
use Rattle.std.specs.Io.KnownBytes.{Consumes}
use Rattle.sk_io.specs.Reads.{AfterReads}
use Rattle.sk_io.proofs.source.read_all.Given as goal

abbrev pub invariant-loop-chunk : goal.invariant-loop-chunk
invariant-loop-chunk g l = record {
  few : length l.text ≤ l.most;
  chunk : length l.chunk ≡ 4096;
  taken : Consumes (g.S.Source.left l.fn.source) (g.S.Source.left l.source) l.text;
  kept : g.S.Source.faults l.source ≡ g.S.Source.faults l.fn.source;
  reads : (count : ℕ) × AfterReads g.S.Source.is_read_on count l.fn.source l.source;
  sure : g.S.Source.is_sure l.fn.source → g.S.Source.is_sure l.source;
}

abbrev pub decreases-loop-chunk : goal.decreases-loop-chunk
decreases-loop-chunk g l = l.most - length l.text
