-- `live` has one answer at most, and what it has answered where it stops is a front of it.
use Rattle.std.proofs.Common.{◌≡◌, ◌⊎◌, inl, inr, ℕ, ◌≤◌, ◌<◌, List, [], ◌∷◌, ◌++◌, length, refl, sym, ap, subst, ◌∙◌, arith, length-append}
use Rattle.std.proofs.lemmas.List.{nil_from_length}
use Rattle.sk_base.specs.SoundSketch.{IsSoundSketch}
use Rattle.sk_session.specs.State.{State, sketch_in, IsSameElse}
use Rattle.sk_session.specs.Replies.{Answers}
use Rattle.sk_entry.proofs.Growing.{empty_sound}
use Rattle.sk_request.specs.declared.Request.{Request}
use Rattle.sk_answers.specs.declared.Status.{Status}
use Rattle.sk_answers.specs.declared.Status.TheVariants.{Done, Refused}
use Rattle.sk_cli.specs.LiveAnswer.{RepliesInTime, IsLiveAnswer, late_line}
use Rattle.sk_cli.specs.SessionAnswer.{AreReplied, EndsSession, at_start}
use Rattle.sk_live_lines.specs.Answering.{HasEnded}
use Rattle.sk_laws.proofs.OneSession.{OneReply, OneSolved, not_ended, same_else_back, sound_else, same_replies}

-- the replies to its lines up to the end, or to all in time, and that the input is too long
pub told_live : (request : Request) (bytes : List ℕ) (status : Status) (text : List ℕ) → IsLiveAnswer request bytes status text
    → ((status ≡ Done) × ((front : RepliesInTime request bytes text) × HasEnded EndsSession front.state front.after × (front.after ≡ [] → length bytes ≤ 4294967295)))
    ⊎ ((status ≡ Refused) × ((replies : List ℕ) × ((front : RepliesInTime request bytes replies) × (front.after ≡ []) × (4294967295 < length bytes) × (text ≡ replies ++ late_line))))
told_live request bytes Done text answer = inl (refl, answer)
told_live request bytes Refused text answer = inr (refl, answer)
told_live request bytes status text answer = absurd answer

module _ (one_reply : OneReply) (one_solved : OneSolved) (request : Request) where
  -- a session that has come to its end has answered all lines that one answered which stops
  pub front_lines : (before after before' after' : List (List ℕ)) (old old' : State) → IsSoundSketch (sketch_in old) → IsSameElse old old' → before ++ after ≡ before' ++ after'
      → (end end' : State) (text whole : List ℕ) → AreReplied request old before end text → AreReplied request old' before' end' whole → HasEnded EndsSession end' after' → (between : List (List ℕ)) × (before' ≡ before ++ between)
  front_lines [] after before' after' old old' sound same lines end end' text whole replied replied' over' = (before', refl)
  front_lines (line ∷ before) after [] after' old old' sound same lines end end' text whole (r, next, first, rest, here, on, further, is) (end_is', none') over' =
      absurd (not_ended one_reply one_solved request old' old (sound_else one_reply one_solved request old old' same sound) (same_else_back one_reply one_solved request old old' same) line (before ++ after)
      (subst (λ (z : State). HasEnded EndsSession z (line ∷ (before ++ after))) end_is' (subst (λ (zs : List (List ℕ)). HasEnded EndsSession end' zs) (sym lines) over')) r next first here on)
  front_lines (line ∷ before) after (line' ∷ before') after' old old' sound same lines end end' text whole (r, next, first, rest, here, on, further, is) (r', next', first', rest', here', on', further', is') over' =
      let line_is : line ≡ line' = cc in
      let rest_is : before ++ after ≡ before' ++ after' = cc in
      let answers' : Answers old' line r' next' = subst (λ (z : List ℕ). Answers old' z r' next') (sym line_is) here'.answers in
      let one = one_reply old old' next next' line r r' sound same here.answers answers' in
      let rests = front_lines before after before' after' next next' here.sound one.1 rest_is end end' rest rest' further further' over' in
      (rests.0, ap (λ (z : List ℕ). z ∷ before') (sym line_is) ∙ ap (λ (zs : List (List ℕ)). line ∷ zs) rests.1)

  -- where all lines are answered, no line ends the session before
  pub all_answered : (bytes text whole : List ℕ) (ended : RepliesInTime request bytes text) (all : RepliesInTime request bytes whole) → HasEnded EndsSession ended.state ended.after → all.after ≡ [] → ended.after ≡ []
  all_answered bytes text whole ended all over none =
      let between = front_lines all.before all.after ended.before ended.after (at_start request.order) (at_start request.order) empty_sound (record { order = refl; edits = refl; count = refl })
      (sym all.parts ∙ ended.parts) all.state ended.state whole text all.replied ended.replied over in
      let size = ap length between.1 in
      let sum = length-append all.before between.0 in
      let lines_are = ap length (sym ended.parts ∙ all.parts) in
      let ended_sum = length-append ended.before ended.after in
      let all_sum = length-append all.before all.after in
      let no_more = ap length none in
      nil_from_length ended.after (omega (arith, size, sum, lines_are, ended_sum, all_sum, no_more))

  pub same_live : (bytes : List ℕ) (status other : Status) (text another : List ℕ) → IsLiveAnswer request bytes status text → IsLiveAnswer request bytes other another → (status ≡ other) × (text ≡ another)
  same_live bytes status other text another first second =
      elim (told_live request bytes status text first) [
        | inl (done, (front, over, fits)) ↦ elim (told_live request bytes other another second) [
          | inl (done', (front', over', fits')) ↦ (
            done ∙ sym done',
            same_replies one_reply one_solved request front.before front.after front'.before front'.after (at_start request.order) (at_start request.order) empty_sound (record { order = refl; edits = refl; count = refl })
                (sym front.parts ∙ front'.parts) front.state front'.state text another front.replied front'.replied over over',
          )
          | inr (refused, (replies, (all, none, long, is))) ↦ absurd (let few = fits (all_answered bytes text replies front all over none) in omega (arith, few, long))
        ]
        | inr (refused, (replies, (all, none, long, is))) ↦ elim (told_live request bytes other another second) [
          | inl (done', (front', over', fits')) ↦ absurd (let few = fits' (all_answered bytes another replies front' all over' none) in omega (arith, few, long))
          | inr (refused', (replies', (all', none', long', is'))) ↦ (
            refused ∙ sym refused',
            is
                ∙ ap (λ (z : List ℕ). z ++ late_line)
                (same_replies one_reply one_solved request all.before all.after all'.before all'.after (at_start request.order) (at_start request.order) empty_sound (record { order = refl; edits = refl; count = refl })
                (sym all.parts ∙ all'.parts) all.state all'.state replies replies' all.replied all'.replied
                (subst (λ (zs : List (List ℕ)). HasEnded EndsSession all.state zs) (sym none) tt) (subst (λ (zs : List (List ℕ)). HasEnded EndsSession all'.state zs) (sym none') tt))
                ∙ sym is',
          )
        ]
      ]
