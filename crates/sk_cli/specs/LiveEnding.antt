-- How `live` ends.
use Rattle.std.specs.Prelude.{◌≡◌, ◌⊎◌, ◌≤◌, ⊤, ℕ, List, [], length, take, Option}
use Rattle.std.specs.Io.KnownBytes.{Appends, Consumes, IsAtEnd}
use Rattle.sk_io.specs.Transfer.{AppendsFront}
use Rattle.sk_lines.specs.Lines.{lines_in}
use Rattle.sk_session.specs.State.{State}
use Rattle.sk_request.specs.declared.Request.{Request}
use Rattle.sk_live_lines.specs.Answering.{IsTold, EndsAtLine}
use Rattle.sk_live_lines.specs.InTime.{whole_lines}
use Rattle.sk_live_lines.specs.declared.TurnEnd.{TurnEnd}
use Rattle.sk_live_lines.specs.declared.TurnEnd.TheVariants as turn_end
use Rattle.sk_answers.specs.declared.Status.{Status}
use Rattle.sk_answers.specs.declared.Status.TheVariants.{Done, Refused, ReadFault, WriteFault, NoMemory}
use Rattle.sk_cli.specs.LiveAnswer.{begun, IsSaid, IsEnd, RepliesInTime, IsLiveAnswer, late_line}
use Rattle.sk_cli.specs.SessionAnswer.{AreReplied, at_start}

-- a text that `live` writes, whole or as far as the sink takes it: replies, or all that is written where the input is too long
abbrev pub IsLiveWritten : Request → List ℕ → List ℕ → Type 0
IsLiveWritten request bytes text = RepliesInTime request bytes text ⊎ IsLiveAnswer request bytes Refused text

-- each text that `live` writes to what is told fits into the room
abbrev pub AllLiveFit : Request → Option (List ℕ) → ℕ → Type 0
AllLiveFit request left room = (bytes text : List ℕ) → IsTold left bytes → IsLiveWritten request bytes text → length text ≤ room

-- each status says what the sink gained: a front of what is written; the whole replies so far; or all that is answered
abbrev pub LiveEnds : Request → List ℕ → Status → List ℕ → Type 0
LiveEnds request bytes WriteFault gained =
    (text : List ℕ) × (n : ℕ) × IsLiveWritten request bytes text × (n ≤ length text) × (gained ≡ take n text)
LiveEnds request bytes NoMemory gained = RepliesInTime request bytes gained
LiveEnds request bytes ReadFault gained = RepliesInTime request bytes gained
LiveEnds request bytes status gained = IsLiveAnswer request bytes status gained

-- the lines that have come to their end in what was taken are answered, none of them ending the session, and this is the text of the replies
abbrev pub AnswersTaken : Request → List ℕ → List ℕ → Type 0
AnswersTaken request taken text = (state : State) × AreReplied request (at_start request.order) (lines_in (whole_lines taken)) state text

-- Two statuses say more of what was taken. Where the session is done, that is all that was left, and no line that has come to its end
-- in it ends the session; or there is in it the line that ends the session, with its line feed, and at most 4,095 bytes behind that.
-- Where a read failed, all lines that have come to their end in it are answered.
abbrev pub LiveTakes : Request → Status → Option (List ℕ) → Option (List ℕ) → List ℕ → Type 0
LiveTakes request Done left after gained =
    (taken : List ℕ) × Consumes left after taken
    × ((IsAtEnd after × ((text : List ℕ) × AnswersTaken request taken text))
    ⊎ ((behind : List ℕ) × (length behind ≤ 4095) × EndsAtLine IsSaid IsEnd (begun request) taken gained behind))
LiveTakes request ReadFault left after gained = (taken : List ℕ) × Consumes left after taken × AnswersTaken request taken gained
LiveTakes request status left after gained = ⊤

-- that the input is too long was written, or a front of that, or memory ran out before
abbrev pub TellsLate : Option (List ℕ) → Option (List ℕ) → Status → Type 0
TellsLate before now Refused = Appends before now late_line
TellsLate before now WriteFault = AppendsFront before now late_line
TellsLate before now NoMemory = Appends before now []
TellsLate before now status = ⊥

-- the status of an end, and what is written with it
abbrev pub EndsWith : TurnEnd → Option (List ℕ) → Option (List ℕ) → Status → Type 0
EndsWith turn_end.Done before now status = (status ≡ Done) × Appends before now []
EndsWith turn_end.TooLong before now status = TellsLate before now status
EndsWith turn_end.ReadFault before now status = (status ≡ ReadFault) × Appends before now []
EndsWith turn_end.WriteFault before now status = (status ≡ WriteFault) × Appends before now []
EndsWith turn_end.NoMemory before now status = (status ≡ NoMemory) × Appends before now []
