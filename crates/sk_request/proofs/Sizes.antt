-- The size of a sketch that is made.
use Rattle.std.proofs.Common.{ℕ, List, [], ◌∷◌}
use Rattle.sk_request.specs.declared.command.Command.{Command}
use Rattle.sk_request.specs.declared.command.Command.TheVariants.{Grow}
use Rattle.sk_request.specs.declared.request.Request.{Request}
use Rattle.sk_request.specs.Asking.{SizeKey, values_of, IsSize, IsSet, size_in, HasFitSize, Asks}

set_fits : (command : Command) (values : List (List ℕ)) → IsSet IsSize values (size_in command) → HasFitSize command
set_fits (Grow n) [] set = absurd set
set_fits (Grow n) (v ∷ []) set = (set.1, set.2)
set_fits (Grow n) (v ∷ w ∷ more) set = absurd set
set_fits command values set = tt

-- the size that is asked for is one that a sketch can have
pub size_fits : (words : List (List ℕ)) (request : Request) → Asks words request → HasFitSize request.command
size_fits [] request asks = absurd asks
size_fits (command ∷ keys) request asks = set_fits request.command (values_of SizeKey keys) asks.1.size
