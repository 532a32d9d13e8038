use Rattle.std.proofs.Common.{◌≡◌, take}
use Rattle.sk_place.specs.Clusters.{besides}
use Rattle.sk_place.proofs.lookup.besides.Given as goal

abbrev pub invariant-loop-b : goal.invariant-loop-b
invariant-loop-b g l = l.others ≡ besides l.p l.q (take l.b-index l.boxes)
