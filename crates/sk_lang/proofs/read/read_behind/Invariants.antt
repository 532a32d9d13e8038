use Rattle.std.proofs.Common.{◌+◌, ◌≤◌, length}
use Rattle.sk_lang.specs.declared.progress.Progress.TheVariants.{After}
use Rattle.sk_lang.proofs.Standing.{StandsAt}
use Rattle.sk_lang.proofs.read.read_behind.Given as goal

abbrev pub invariant-loop-rest : goal.invariant-loop-rest
invariant-loop-rest l = record {
  at : StandsAt l.bytes l.rest (After l.fn.opened.version l.fn.opened.front.sketch) l.number;
  numbered : l.number + length l.rest ≤ length l.bytes;
}

abbrev pub decreases-loop-rest : goal.decreases-loop-rest
decreases-loop-rest l = length l.rest
