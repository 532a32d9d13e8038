use Rattle.std.proofs.Common.{◌≡◌}
use Rattle.sk_gen.specs.DatumSketch.{constraints_of}
use Rattle.sk_gen.proofs.constraints.constraints.Given as goal

abbrev pub invariant-loop-i : goal.invariant-loop-i
invariant-loop-i l = l.constraints ≡ constraints_of l.i
