use Rattle.std.proofs.Common.{◌≡◌, ◌+◌, ◌≤◌, false, length}
use Rattle.sk_lang.specs.Reading.{has_ended}
use Rattle.sk_lang.specs.Progress.{size_of}
use Rattle.sk_lang.proofs.Standing.{StandsAt}
use Rattle.sk_lang.proofs.front.read_front.Given as goal

abbrev pub invariant-loop-rest : goal.invariant-loop-rest
invariant-loop-rest l = record {
  at : StandsAt l.bytes l.rest l.progress l.lines;
  unended : has_ended l.progress ≡ false;
  few : size_of l.progress ≤ l.lines;
  numbered : l.lines + length l.rest ≤ length l.bytes;
}

abbrev pub decreases-loop-rest : goal.decreases-loop-rest
decreases-loop-rest l = length l.rest
