use Rattle.std.proofs.Common.{◌≡◌, drop}
use Rattle.sk_place.specs.Clusters.{Rise, with_boxes}
use Rattle.sk_place.proofs.lookup.put_all.Given as goal

abbrev pub invariant-loop-i : goal.invariant-loop-i
invariant-loop-i g l = record { so_far : l.boxes ≡ with_boxes (drop l.i l.more) l.initial.boxes; rises : Rise l.boxes }
