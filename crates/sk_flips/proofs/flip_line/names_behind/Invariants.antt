use Rattle.std.specs.Prelude.{map}
use Rattle.sk_lines.specs.Words.{bytes_of}
use Rattle.sk_flips.proofs.StepWords.{AreNamed}
use Rattle.sk_flips.proofs.flip_line.names_behind.Given as goal

abbrev pub invariant-loop-i : goal.invariant-loop-i
invariant-loop-i l = AreNamed (map (bytes_of l.line) l.words) l.i l.names
