use Rattle.std.proofs.Common.{◌≡◌, List, Bool, refl}
use Rattle.std.specs.Prelude.{All, IfSome, Option, Some, None, find}
use Rattle.std.specs.Option.{option_map}
use Rattle.std.proofs.lemmas.List.Elements.{All-contains}
use Rattle.sk_base.specs.declared.placed.Spot.{Spot}
use Rattle.sk_base.specs.Places.{IsBounded}
use Rattle.sk_base.proofs.Finding.{found_in}
use Rattle.sk_dxf.proofs.neighbours.place.Goals as goal

found_bounded : (p : Spot → Bool) (spots : List Spot) → All (λ spot. IsBounded spot.at) spots → (found : Option Spot) → find p spots ≡ found → IfSome (option_map (λ (spot : Spot). spot.at) found) IsBounded
found_bounded p spots bounded None is = tt
found_bounded p spots bounded (Some spot) is = All-contains (λ (z : Spot). IsBounded z.at) spots spot bounded (found_in p spots spot is).0

pub returns-clause-bounded : goal.returns-clause-bounded
returns-clause-bounded c = rw c.at.ensures (found_bounded _ c.args.at.now.spots c.requires _ refl)
