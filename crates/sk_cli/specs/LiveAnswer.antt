-- What `live` answers: the replies of a session, line by line as the lines come.
use Rattle.std.specs.Prelude.{◌≡◌, ◌≢◌, ◌≤◌, ◌<◌, ℕ, nat_lt, true, List, [], ◌++◌, length, Some}
use Rattle.std.proofs.Common.{refl, inl, inr, arith}
use Rattle.std.proofs.lemmas.Bool.{cases_lt}
use Rattle.std.proofs.lemmas.Bool.Decides.{nat_tests}
use Rattle.sk_lines.specs.Lines.{lines_in}
use Rattle.sk_lines.specs.declared.Code.TheVariants.{E15, E20}
use Rattle.sk_report.specs.RefusalLine.{refusal_line}
use Rattle.sk_session.specs.declared.Reply.{Reply}
use Rattle.sk_session.specs.declared.Reply.TheVariants as reply
use Rattle.sk_session.specs.SessionCodes.{code_in}
use Rattle.sk_session.specs.State.{State}
use Rattle.sk_session.specs.Replies.{Answers, Only}
use Rattle.sk_request.specs.declared.Request.{Request}
use Rattle.sk_live_lines.specs.InTime.{in_time}
use Rattle.sk_answers.specs.declared.Status.{Status}
use Rattle.sk_answers.specs.declared.Status.TheVariants.{Done, Refused}
use Rattle.sk_cli.specs.SessionAnswer.{IsReplied, AreReplied, EndsSession, at_start}
use Rattle.sk_live_lines.specs.Answering.{HasEnded}

-- a session with the keys of its words
pub record Sat : Type 0 where
  pub request : Request
  pub state : State

-- a session with these keys before its first line
abbrev pub begun : Request → Sat
begun request = record { request = request; state = at_start request.order }

-- the line is answered with this text, and the session goes on
abbrev pub IsSaid : Sat → List ℕ → Sat → List ℕ → Type 0
IsSaid old line new text = (new.request ≡ old.request) × ((r : Reply) × IsReplied old.request old.state line new.state r text × (r ≢ reply.End))

-- the line ends the session
abbrev pub IsEnd : Sat → List ℕ → Type 0
IsEnd sat line = EndsSession sat.state line

-- some of the lines that are answered in time, from the first on, are answered, and this is the text of their replies
pub record RepliesInTime (request : Request) (bytes text : List ℕ) : Type 0 where
  pub before : List (List ℕ)
  pub after : List (List ℕ)
  pub parts : lines_in (in_time bytes) ≡ before ++ after
  pub state : State
  pub replied : AreReplied request (at_start request.order) before state text

-- what is written behind the replies where the input is too long
abbrev pub late_line : List ℕ
late_line = refusal_line (record { line = 0; code = E20 })

-- what `live` answers to an input: the replies to its lines up to its end, where it has one in time; else those to all lines in
-- time, and that the input is too long
abbrev pub IsLiveAnswer : Request → List ℕ → Status → List ℕ → Type 0
IsLiveAnswer request bytes Done text =
    (front : RepliesInTime request bytes text) × HasEnded EndsSession front.state front.after × (front.after ≡ [] → length bytes ≤ 4294967295)
IsLiveAnswer request bytes Refused text =
    (replies : List ℕ) × ((front : RepliesInTime request bytes replies) × (front.after ≡ []) × (4294967295 < length bytes)
    × (text ≡ replies ++ late_line))
IsLiveAnswer request bytes status text = ⊥

long_code : (state : State) (line : List ℕ) → 200 < length line → code_in state line ≡ Some E15
long_code state line more = let long : nat_lt 200 (length line) ≡ true = grind (arith, nat_tests, more) in rw long refl

-- a line that is too long is refused as that
long_refused : (old new : State) (line : List ℕ) (r : Reply) → 200 < length line → Answers old line r new → Only old (reply.Refused E15) r new
long_refused old new line r more answers = rw (long_code old line more) at answers

refused_long : (old new : State) (line : List ℕ) (r : Reply) → 200 < length line → Only old (reply.Refused E15) r new → Answers old line r new
refused_long old new line r more only = rw (long_code old line more) only

-- lines that are too long are answered alike, and none ends the session
pub long_alike : (old new : Sat) (line other text : List ℕ) → 200 < length line → 200 < length other → IsSaid old line new text → IsSaid old other new text
long_alike old new line other text more also (same, (r, replied, goes_on)) = (
  same,
  (
    r,
    record { answers = refused_long old.state new.state other r also (long_refused old.state new.state line r more replied.answers); sound = replied.sound; says = replied.says },
    goes_on,
  ),
)

pub long_goes_on : (sat : Sat) (line : List ℕ) → IsEnd sat line → length line ≤ 200
long_goes_on sat line (new, answers) =
    elim (cases_lt 200 (length line)) [
      | inl more ↦ absurd (let clash = (long_refused sat.state new line reply.End more answers).0 in cc)
      | inr few ↦ few
    ]
