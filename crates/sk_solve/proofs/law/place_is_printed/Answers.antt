use Rattle.sk_solve.proofs.AnchorPlaces.{place_printed}
use Rattle.sk_solve.proofs.law.place_is_printed.Goals as goal

pub returns : goal.returns
returns g c by F fine f sound m is b b_is = place_printed by F fine f sound m is b b_is
