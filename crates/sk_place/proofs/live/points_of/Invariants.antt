use Rattle.std.proofs.Common.{◌≡◌, take, map}
use Rattle.sk_place.specs.Trees.{pin_at}
use Rattle.sk_place.proofs.live.points_of.Given as goal

abbrev pub invariant-loop-pin : goal.invariant-loop-pin
invariant-loop-pin g l = l.points ≡ map (pin_at g.G.Grid.BITS) (take l.pin-index l.pins)
