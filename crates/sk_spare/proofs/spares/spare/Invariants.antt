use Rattle.std.proofs.Common.{take}
use Rattle.sk_family.specs.Body.{starts}
use Rattle.sk_spare.proofs.Deciding.{AreSpareOf}
use Rattle.sk_spare.proofs.spares.spare.Given as goal

-- the spare ones of the constraints so far
abbrev pub invariant-loop-start : goal.invariant-loop-start
invariant-loop-start l = AreSpareOf l.graph (take l.start-index (starts l.graph)) l.spares
