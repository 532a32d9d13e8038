-- How a call ends.
use Rattle.std.specs.Prelude.{◌≡◌, ◌⊎◌, ◌≤◌, ℕ, List, [], length, take, Option}
use Rattle.std.specs.Io.KnownBytes.{Appends}
use Rattle.sk_io.specs.Transfer.{AppendsFront}
use Rattle.sk_answers.specs.declared.Status.{Status}
use Rattle.sk_answers.specs.declared.Status.TheVariants.{ReadFault, WriteFault, NoMemory}
use Rattle.sk_request.specs.declared.Command.TheVariants.{Live}
use Rattle.sk_request.specs.declared.Request.{Request}
use Rattle.sk_request.specs.Asking.{Asks, AskForInput}
use Rattle.sk_cli.specs.Outcome.{IsOutcome, AreFirstReplies, AreLiveReplies, IsWritten}
pub use Rattle.sk_live_lines.specs.Answering.{IsTold}

-- the words are of the form, and ask for `live`
abbrev pub AskForLive : List (List ℕ) → Type 0
AskForLive words = (request : Request) × Asks words request × (request.command ≡ Live)

-- each status says what the sink gained: nothing, a front of a text that is written, or all of the outcome's text; where
-- memory runs out in a session or in `live`, and where a read fails in `live`, the whole replies so far
abbrev pub Ends : List (List ℕ) → List ℕ → Status → List ℕ → Type 0
Ends words bytes ReadFault gained = AskForInput words × ((gained ≡ []) ⊎ AreLiveReplies words bytes gained)
Ends words bytes NoMemory gained = (gained ≡ []) ⊎ (AreFirstReplies words bytes gained ⊎ AreLiveReplies words bytes gained)
Ends words bytes WriteFault gained =
    (text : List ℕ) × (n : ℕ) × IsWritten words bytes text × (n ≤ length text) × (gained ≡ take n text)
Ends words bytes status gained = IsOutcome words bytes status gained

-- the status comes after the whole input
abbrev pub HasInput : Status → Type 0
HasInput ReadFault = ⊥
HasInput NoMemory = ⊥
HasInput status = Unit {0}

-- the text was written and the status is as given, or a front of it was and the status says that the sink failed
abbrev pub Sends : Option (List ℕ) → Option (List ℕ) → Status → List ℕ → Status → Type 0
Sends old new given text WriteFault = AppendsFront old new text
Sends old new given text status = Appends old new text × (status ≡ given)
