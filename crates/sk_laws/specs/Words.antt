-- Words that ask for `complete`, and the request for a session with the keys of another.
use Rattle.std.specs.Prelude.{◌≡◌, ℕ, List}
use Rattle.sk_request.specs.Asking.{Asks}
use Rattle.sk_request.specs.declared.Command.TheVariants.{Complete, Session}
use Rattle.sk_request.specs.declared.Request.{Request}

-- the words ask for `complete`
abbrev pub AskToComplete : List (List ℕ) → Type 0
AskToComplete words = (request : Request) × Asks words request × (request.command ≡ Complete)

-- the same keys, with `session` for their command
abbrev pub for_session : Request → Request
for_session request = record { command = Session; order = request.order; bits = request.bits; within = request.within; layout = request.layout }
