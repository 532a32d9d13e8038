use Rattle.sk_claims.proofs.PlacesBack.{places_back}
use Rattle.sk_claims.proofs.law.written_places_read_back.Goals as goal

pub returns : goal.returns
returns c = places_back
