use Rattle.std.proofs.Common.{take}
use Rattle.sk_complete.proofs.Ringing.{TellsOf}
use Rattle.sk_complete.proofs.rings.has_ring.Given as goal

abbrev pub invariant-loop-part : goal.invariant-loop-part
invariant-loop-part l = TellsOf l.graph (take l.part-index l.parts) l.classes.items
