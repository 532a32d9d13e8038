-- `live` answers an input that a session may have as a session does.
use Rattle.std.proofs.Common.{◌≡◌, ℕ, ◌≤◌, List, [], ◌∷◌, length, sym, ap, subst, ◌∙◌, arith, inl, inr}
use Rattle.sk_lines.specs.Lines.{lines_in}
use Rattle.sk_session.specs.State.{State}
use Rattle.sk_request.specs.Asking.{Asks}
use Rattle.sk_request.specs.declared.Command.{Command}
use Rattle.sk_request.specs.declared.Command.TheVariants.{Live}
use Rattle.sk_request.specs.declared.Request.{Request}
use Rattle.sk_request.proofs.OneRequest.{same_request}
use Rattle.sk_live_lines.specs.InTime.{in_time}
use Rattle.sk_live_lines.proofs.InTimes.{all_in_time}
use Rattle.sk_answers.specs.declared.Status.{Status}
use Rattle.sk_answers.specs.declared.Status.TheVariants.{Done, Refused}
use Rattle.sk_cli.specs.LiveAnswer.{IsLiveAnswer}
use Rattle.sk_laws.specs.Words.{for_session}
use Rattle.sk_cli.specs.Outcome.{IsOutcome, IsAnswer, IsAnswerOf}
use Rattle.sk_cli.specs.SessionAnswer.{AreReplied, IsSessionAnswer}

module _ (request : Request) (bytes text : List ℕ) (few : length bytes ≤ 1048576) where
  all : in_time bytes ≡ bytes
  all = all_in_time bytes (omega (arith, few))

  pub as_session : (status : Status) → IsLiveAnswer request bytes status text → IsSessionAnswer request bytes status text
  as_session Done (front, over, fits) = (record { fits = few; before = front.before; after = front.after; parts = ap lines_in (sym all) ∙ front.parts; state = front.state; replied = front.replied }, over)
  as_session Refused (replies, (front, none, long, is)) = absurd (omega (arith, long, few))
  as_session status answer = absurd answer

  pub as_live : (status : Status) → IsSessionAnswer request bytes status text → IsLiveAnswer request bytes status text
  as_live Done (front, over) = (record { before = front.before; after = front.after; parts = ap lines_in all ∙ front.parts; state = front.state; replied = front.replied }, over, λ none. omega (arith, few))
  as_live Refused (long, is) = absurd (omega (arith, long, few))
  as_live status answer = absurd answer

-- the command is no part of the replies
replied_so : (request : Request) (lines : List (List ℕ)) (old new : State) (text : List ℕ) → AreReplied request old lines new text → AreReplied (for_session request) old lines new text
replied_so request [] old new text replied = replied
replied_so request (line ∷ lines) old new text (r, next, first, rest, here, on, further, is) =
    (r, next, first, rest, record { answers = here.answers; sound = here.sound; says = here.says }, on, replied_so request lines next new rest further, is)

replied_back : (request : Request) (lines : List (List ℕ)) (old new : State) (text : List ℕ) → AreReplied (for_session request) old lines new text → AreReplied request old lines new text
replied_back request [] old new text replied = replied
replied_back request (line ∷ lines) old new text (r, next, first, rest, here, on, further, is) =
    (r, next, first, rest, record { answers = here.answers; sound = here.sound; says = here.says }, on, replied_back request lines next new rest further, is)

answered_so : (request : Request) (bytes text : List ℕ) (status : Status) → IsSessionAnswer request bytes status text → IsSessionAnswer (for_session request) bytes status text
answered_so request bytes text Done (front, over) =
    (record { fits = front.fits; before = front.before; after = front.after; parts = front.parts; state = front.state; replied = replied_so request front.before _ front.state text front.replied }, over)
answered_so request bytes text Refused answer = answer
answered_so request bytes text status answer = absurd answer

answered_back : (request : Request) (bytes text : List ℕ) (status : Status) → IsSessionAnswer (for_session request) bytes status text → IsSessionAnswer request bytes status text
answered_back request bytes text Done (front, over) =
    (record { fits = front.fits; before = front.before; after = front.after; parts = front.parts; state = front.state; replied = replied_back request front.before _ front.state text front.replied }, over)
answered_back request bytes text Refused answer = answer
answered_back request bytes text status answer = absurd answer

-- words with `live` and words with `session` have one outcome
module _ (words other : List (List ℕ)) (request : Request) (bytes text : List ℕ) (status : Status) (asks : Asks words request) (is : request.command ≡ Live) (others : Asks other (for_session request)) (few : length bytes ≤ 1048576) where
  pub outcome_there : IsOutcome words bytes status text → IsOutcome other bytes status text
  outcome_there (inl (r, asks_r, answer)) =
      let same = subst (λ (z : Request). IsAnswer z bytes status text) (same_request words r request asks_r asks) answer in
      let live = subst (λ (c : Command). IsAnswerOf c request bytes status text) is same in
      inl (for_session request, others, answered_so request bytes text status (as_session request bytes text few status live))
  outcome_there (inr usage) = absurd (usage.0 (request, asks))

  pub outcome_back : IsOutcome other bytes status text → IsOutcome words bytes status text
  outcome_back (inl (r, asks_r, answer)) =
      let same = subst (λ (z : Request). IsAnswer z bytes status text) (same_request other r (for_session request) asks_r others) answer in
      let live = as_live request bytes text few status (answered_back request bytes text status same) in
      inl (request, asks, subst (λ (c : Command). IsAnswerOf c request bytes status text) (sym is) live)
  outcome_back (inr usage) = absurd (usage.0 (for_session request, others))
