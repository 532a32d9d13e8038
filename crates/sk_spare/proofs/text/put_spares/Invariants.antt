use Rattle.std.proofs.Common.{◌≡◌, ◌++◌, take}
use Rattle.std.specs.List.{flat_map}
use Rattle.sk_spare.specs.SpareReport.{spare_line}
use Rattle.sk_spare.proofs.text.put_spares.Given as goal

abbrev pub invariant-loop-number : goal.invariant-loop-number
invariant-loop-number l = l.text ≡ l.fn.text ++ flat_map (spare_line l.s) (take l.number-index l.spares)
