-- A session has one text of replies at most, and what it has answered where it stops is a front of it.
use Rattle.std.proofs.Common.{◌≡◌, ◌≢◌, ℕ, ◌+◌, List, [], ◌∷◌, ◌++◌, length, refl, sym, ap, subst, ◌∙◌, arith, append_assoc, length-append}
use Rattle.std.proofs.lemmas.List.{append-nil, nil_from_length}
use Rattle.sk_base.specs.declared.Sketch.{Sketch}
use Rattle.sk_base.specs.SoundSketch.{IsSoundSketch}
use Rattle.sk_edits.specs.declared.Edit.{Edit}
use Rattle.sk_session.specs.declared.Reply.{Reply}
use Rattle.sk_session.specs.declared.Reply.TheVariants as reply
use Rattle.sk_edits.specs.Edits.{sketch_of}
use Rattle.sk_session.specs.State.{State, sketch_in, IsSameElse}
use Rattle.sk_session.specs.Replies.{Answers}
use Rattle.sk_request.specs.declared.Request.{Request}
use Rattle.sk_cli.specs.declared.Report.TheVariants.{Places}
use Rattle.sk_answers.specs.declared.Status.{Status}
use Rattle.sk_cli.specs.SessionAnswer.{IsReplyText, IsReplied, AreReplied, EndsSession, solve_with, session_keys}
use Rattle.sk_live_lines.specs.Answering.{HasEnded}
use Rattle.sk_cli.specs.Solved.{IsSolved}

-- a line has one reply, whatever family is kept
abbrev pub OneReply : Type 0
OneReply = (old other new last : State) (line : List ℕ) (one said : Reply) → IsSoundSketch (sketch_in old) → IsSameElse old other → Answers old line one new → Answers other line said last
    → (one ≡ said) × IsSameElse new last

-- `solve` writes one text for a sound sketch
abbrev pub OneSolved : Type 0
OneSolved = (request : Request) (s : Sketch) → IsSoundSketch s → (status other : Status) (text another : List ℕ)
    → IsSolved Places request s status text → IsSolved Places request s other another → text ≡ another

-- texts of which each is a front of the other are the same
each_a_front : (xs ys more less : List ℕ) → ys ≡ xs ++ more → xs ≡ ys ++ less → xs ≡ ys
each_a_front xs ys more less longer shorter =
    let up : length ys ≡ length xs + length more = ap length longer ∙ length-append xs more in
    let down : length xs ≡ length ys + length less = ap length shorter ∙ length-append ys less in
    let none : more ≡ [] = nil_from_length more (omega (arith, up, down)) in
    sym (longer ∙ ap (λ z. xs ++ z) none ∙ append-nil xs)

module _ (one_reply : OneReply) (one_solved : OneSolved) (request : Request) where
  same_text : (s : Sketch) → IsSoundSketch s → (r : Reply) (text another : List ℕ)
      → IsReplyText (session_keys request) s r text → IsReplyText (session_keys request) s r another → text ≡ another
  same_text s sound reply.Blank text another first second = first ∙ sym second
  same_text s sound reply.Done text another first second = first ∙ sym second
  same_text s sound (reply.Declared e) text another first second = first ∙ sym second
  same_text s sound (reply.Constrained k) text another first second = first ∙ sym second
  same_text s sound (reply.Refused code) text another first second = first ∙ sym second
  same_text s sound (reply.Checked j) text another first second = first ∙ sym second
  same_text s sound (reply.Planned p) text another first second = first ∙ sym second
  same_text s sound (reply.NotWell j) text another first second = first ∙ sym second
  same_text s sound reply.Solve text another (status, first) (other, second) =
      one_solved (solve_with (session_keys request)) s sound status other text another first second
  same_text s sound reply.Write text another first second = first ∙ sym second
  same_text s sound reply.End text another first second = first ∙ sym second

  -- the next line of one session is the end, and of the other it isn't
  pub not_ended : (old other : State) → IsSoundSketch (sketch_in old) → IsSameElse old other → (line : List ℕ) (lines : List (List ℕ)) → HasEnded EndsSession old (line ∷ lines)
      → (r : Reply) (next : State) (text : List ℕ) → IsReplied request other line next r text → r ≢ reply.End → ⊥
  not_ended old other sound same line lines (new, ends) r next text replied goes_on =
      goes_on (sym (one_reply old other new next line reply.End r sound same ends replied.answers).0)

  pub same_else_back : (old other : State) → IsSameElse old other → IsSameElse other old
  same_else_back old other same = record { order = sym same.order; edits = sym same.edits; count = sym same.count }

  pub sound_else : (old other : State) → IsSameElse old other → IsSoundSketch (sketch_in old) → IsSoundSketch (sketch_in other)
  sound_else old other same sound = subst (λ (edits : List Edit). IsSoundSketch (sketch_of edits)) (sym same.edits) sound

  -- what a session has answered where it stops is a front of what it answers up to its end
  pub front_replies : (before after before' after' : List (List ℕ)) (old old' : State) → IsSoundSketch (sketch_in old) → IsSameElse old old' → before ++ after ≡ before' ++ after'
      → (end end' : State) (text whole : List ℕ) → AreReplied request old before end text → AreReplied request old' before' end' whole → HasEnded EndsSession end' after' → (behind : List ℕ) × (whole ≡ text ++ behind)
  front_replies [] after before' after' old old' sound same lines end end' text whole (end_is, none) replied' over' = (whole, subst (λ (z : List ℕ). whole ≡ z ++ whole) (sym none) refl)
  front_replies (line ∷ before) after [] after' old old' sound same lines end end' text whole (r, next, first, rest, here, on, further, is) (end_is', none') over' =
      absurd (not_ended old' old (sound_else old old' same sound) (same_else_back old old' same) line (before ++ after)
      (subst (λ (z : State). HasEnded EndsSession z (line ∷ (before ++ after))) end_is' (subst (λ (zs : List (List ℕ)). HasEnded EndsSession end' zs) (sym lines) over')) r next first here on)
  front_replies (line ∷ before) after (line' ∷ before') after' old old' sound same lines end end' text whole (r, next, first, rest, here, on, further, is) (r', next', first', rest', here', on', further', is') over' =
      let line_is : line ≡ line' = cc in
      let rest_is : before ++ after ≡ before' ++ after' = cc in
      let answers' : Answers old' line r' next' = subst (λ (z : List ℕ). Answers old' z r' next') (sym line_is) here'.answers in
      let one = one_reply old old' next next' line r r' sound same here.answers answers' in
      let said : IsReplyText (session_keys request) (sketch_in next) r first' =
      subst (λ (z : Reply). IsReplyText (session_keys request) (sketch_in next) z first') (sym one.0)
      (subst (λ (edits : List Edit). IsReplyText (session_keys request) (sketch_of edits) r' first') one.1.edits here'.says) in
      let text_is = same_text (sketch_in next) here.sound r first first' here.says said in
      let rests = front_replies before after before' after' next next' here.sound one.1 rest_is end end' rest rest' further further' over' in
      (rests.0, is' ∙ ap (λ z. first' ++ z) rests.1 ∙ sym (append_assoc first' rest rests.0) ∙ ap (λ z. z ++ rests.0) (sym (is ∙ ap (λ z. z ++ rest) text_is)))

  pub same_replies : (before after before' after' : List (List ℕ)) (old old' : State) → IsSoundSketch (sketch_in old) → IsSameElse old old' → before ++ after ≡ before' ++ after'
      → (end end' : State) (text text' : List ℕ) → AreReplied request old before end text → AreReplied request old' before' end' text' → HasEnded EndsSession end after → HasEnded EndsSession end' after' → text ≡ text'
  same_replies before after before' after' old old' sound same lines end end' text text' replied replied' over over' =
      let one = front_replies before after before' after' old old' sound same lines end end' text text' replied replied' over' in
      let other = front_replies before' after' before after old' old (sound_else old old' same sound) (same_else_back old old' same) (sym lines) end' end text' text replied' replied over in
      each_a_front text text' one.0 other.0 one.1 other.1
