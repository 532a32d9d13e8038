use Rattle.std.proofs.Common.{◌≡◌, drop, ◌++◌, Ok}
use Rattle.sk_place.specs.Carrying.{carried_each, and_then}
use Rattle.sk_place.proofs.carry.carried_each.Given as goal

abbrev pub invariant-loop-b : goal.invariant-loop-b
invariant-loop-b g l =
    and_then (carried_each l.placing g.G.Grid.BITS l.motion (drop l.b-index l.boxes)) (λ rest. Ok (l.carried ++ rest))
    ≡ carried_each l.placing g.G.Grid.BITS l.motion l.boxes
