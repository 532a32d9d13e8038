use Rattle.std.proofs.Common.{◌≡◌}
use Rattle.sk_gen.specs.DatumSketch.{elements_of}
use Rattle.sk_gen.proofs.elements.elements.Given as goal

abbrev pub invariant-loop-i : goal.invariant-loop-i
invariant-loop-i l = l.elements ≡ elements_of l.i
