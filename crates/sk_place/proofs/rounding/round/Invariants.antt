use Rattle.std.proofs.Common.{◌≡◌, take, map}
use Rattle.std.specs.Prelude.{All}
use Rattle.sk_base.specs.Places.{IsBounded}
use Rattle.sk_place.specs.Rounding.{rounded}
use Rattle.sk_place.proofs.rounding.round.Given as goal

abbrev pub invariant-loop-b : goal.invariant-loop-b
invariant-loop-b g l = record { value : l.spots ≡ map (rounded g.G.Grid.BITS) (take l.b-index l.b-items); bounded : All (λ spot. IsBounded spot.at) l.spots }
