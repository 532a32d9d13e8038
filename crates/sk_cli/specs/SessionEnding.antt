-- How a session ends.
use Rattle.std.specs.Prelude.{◌≡◌, ◌≢◌, ◌≤◌, ℕ, List, [], length, take, Option}
use Rattle.std.specs.Io.KnownBytes.{Appends}
use Rattle.sk_io.specs.Transfer.{AppendsFront}
use Rattle.sk_session.specs.declared.Reply.{Reply}
use Rattle.sk_session.specs.declared.Reply.TheVariants as reply
use Rattle.sk_session.specs.State.{State}
use Rattle.sk_request.specs.declared.Request.{Request}
use Rattle.sk_answers.specs.declared.Status.{Status}
use Rattle.sk_answers.specs.declared.Status.TheVariants.{WriteFault, NoMemory}
use Rattle.sk_cli.specs.SessionAnswer.{IsReplied, RepliesToFront, IsSessionAnswer}

-- each status says what the sink gained: a front of the replies, the whole replies so far, or all that is answered
abbrev pub SessionEnds : Request → List ℕ → Status → List ℕ → Type 0
SessionEnds request bytes WriteFault gained = (text : List ℕ) × (n : ℕ) × RepliesToFront request bytes text × (n ≤ length text) × (gained ≡ take n text)
SessionEnds request bytes NoMemory gained = RepliesToFront request bytes gained
SessionEnds request bytes status gained = IsSessionAnswer request bytes status gained

-- a session that stops at a line has written a front of the reply, or memory ran out and nothing more was written
abbrev pub IsStopped : Request → State → List ℕ → State → Option (List ℕ) → Option (List ℕ) → Status → Type 0
IsStopped request old line new before after WriteFault =
    (r : Reply) × (text : List ℕ) × IsReplied request old line new r text × (r ≢ reply.End) × AppendsFront before after text
IsStopped request old line new before after NoMemory = Appends before after []
IsStopped request old line new before after status = ⊥
