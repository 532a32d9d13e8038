use Rattle.std.specs.Prelude.{◌≡◌, drop}
use Rattle.sk_lines.specs.ClusterWords.{has_twins}
use Rattle.sk_flips.proofs.flip_line.has_twins.Given as goal

abbrev pub invariant-loop-i : goal.invariant-loop-i
invariant-loop-i l = has_twins l.names ≡ has_twins (drop l.i l.names)
