-- solved_places_are_found
use Rattle.sk_laws.proofs.FlipsFound.{found_again}
use Rattle.sk_laws.proofs.law.solved_places_are_found.Goals as goal

pub returns : goal.returns
returns c request s text sound solved = found_again request s text sound solved
