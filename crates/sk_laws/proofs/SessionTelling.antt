-- The replies to the questions of a session tell the headline of the sketch now.
use Rattle.std.proofs.Common.{◌≡◌, inl, inr, ℕ, List, [], ◌∷◌, ◌++◌, ap, sym, subst, ◌∙◌, append_assoc}
use Rattle.sk_base.specs.declared.Sketch.{Sketch}
use Rattle.sk_base.specs.SoundSketch.{IsSoundSketch}
use Rattle.sk_graph.proofs.Soundness.{graph_is_sound}
use Rattle.sk_session.specs.declared.Reply.{Reply}
use Rattle.sk_session.specs.declared.Reply.TheVariants as reply
use Rattle.sk_session.specs.State.{State, sketch_in}
use Rattle.sk_session.proofs.Asked.{OtherBegins, TellsOf, answers_told}
use Rattle.sk_close_by_order.specs.declared.Order.{Order}
use Rattle.sk_request.specs.declared.Account.TheVariants.{Judged}
use Rattle.sk_request.specs.declared.Command.TheVariants.{Tell, Plan, Solve, Session, Live}
use Rattle.sk_request.specs.declared.Request.{Request}
use Rattle.sk_cli.specs.declared.Report.TheVariants.{Places}
use Rattle.sk_answers.specs.declared.Status.{Status}
use Rattle.sk_answers.specs.declared.Status.TheVariants.{Done, NotWell}
use Rattle.sk_request.specs.Asking.{Asks}
use Rattle.sk_laws.specs.Headline.{TellsAsAsked, RepliesNext, RepliesNextLive}
use Rattle.sk_cli.specs.Outcome.{IsOutcome, IsSolved}
use Rattle.sk_live_lines.specs.InTime.{in_time}
use Rattle.sk_cli.specs.LiveAnswer.{RepliesInTime}
use Rattle.sk_cli.specs.SessionAnswer.{IsReplyText, IsReplied, AreReplied, solve_with, at_start, session_keys}
use Rattle.sk_laws.proofs.OneOutcome.{OneJudgement, LowerLaws, front_of_outcome, front_of_live}
use Rattle.sk_laws.proofs.Printed.{OneNormal}
use Rattle.sk_cli.proofs.Sessions.{Stands, stands_next, front_at, ends_or_not, end_has_none}
use Rattle.sk_laws.proofs.Telling.{LegalPlans, tells}

-- the order of a session is that of its words
order_kept : OtherBegins → (request : Request) (lines : List (List ℕ)) (old new : State) (text : List ℕ) → AreReplied request old lines new text → new.order ≡ old.order
order_kept begins request [] old new text (same, none) = ap (λ (z : State). z.order) same
order_kept begins request (line ∷ lines) old new text (r, next, first, rest, here, on, further, is) =
    order_kept begins request lines next new rest further ∙ (answers_told begins old next line r here.answers).0

-- what is solved depends on no more than the order, the grid, the limit and what places are
solved_as : (request : Request) (s : Sketch) (status : Status) (text : List ℕ) → IsSolved Places (solve_with (session_keys request)) s status text → IsSolved Places request s status text
solved_as request s status text (inl (p, q, placed, status_is, text_is)) = inl (p, q, record { plan = placed.plan; placed = placed.placed }, status_is, text_is)
solved_as request s status text (inr short) = inr short

module _ (normal : OneNormal) (plans : LegalPlans) (law : OneJudgement) (laws : LowerLaws) (begins : OtherBegins) (request : Request) where
  tells_asked : (s : Sketch) → IsSoundSketch s → (r : Reply) (text : List ℕ) → TellsOf request.order s r → IsReplyText (session_keys request) s r text → TellsAsAsked request s r text
  tells_asked s sound (reply.Checked j) text (some, judged) says = (some, tells normal plans law laws request s Done text (graph_is_sound s sound) (Tell Judged) (sound, (j, judged, says)))
  tells_asked s sound (reply.Planned p) text (some, plan) says =
      (some, tells normal plans law laws request s Done text (graph_is_sound s sound) Plan (some, (p, plan, says)))
  tells_asked s sound (reply.NotWell j) text (some, judged, not_well) says =
      (some, tells normal plans law laws request s NotWell text (graph_is_sound s sound) Plan (some, (j, judged, not_well, says)))
  tells_asked s sound reply.Solve text some (status, solved) =
      (status, (some, tells normal plans law laws request s status text (graph_is_sound s sound) Solve (Places, tt, solved_as request s status text solved)))
  tells_asked s sound reply.Blank text told says = tt
  tells_asked s sound reply.Done text told says = tt
  tells_asked s sound (reply.Declared e) text told says = tt
  tells_asked s sound (reply.Constrained k) text told says = tt
  tells_asked s sound (reply.Refused code) text told says = tt
  tells_asked s sound reply.Write text told says = tt
  tells_asked s sound reply.End text told says = tt

  pub tells_replied : (lines : List (List ℕ)) (state new : State) (before : List ℕ) → AreReplied request (at_start request.order) lines state before → (line : List ℕ) (r : Reply) (text : List ℕ) → IsReplied request state line new r text
      → TellsAsAsked request (sketch_in new) r text
  tells_replied lines state new before replied line r text here =
      let told = (answers_told begins state new line r here.answers).1 in
      let order = order_kept begins request lines (at_start request.order) state before replied in
      tells_asked (sketch_in new) here.sound r text (subst (λ (z : Order). TellsOf z (sketch_in new) r) order told) here.says

  module _ (bytes before : List ℕ) (new : State) (r : Reply) (text : List ℕ) (next : RepliesNext request bytes before new r text) where
    stands_before : Stands request bytes (next.line ∷ next.lines) next.front.state before
    stands_before = subst (λ (lines : List (List ℕ)). Stands request bytes lines next.front.state before) next.next
        (record { before = next.front.before; parts = next.front.parts; replied = next.front.replied })

    pub tells_next : TellsAsAsked request (sketch_in new) r text
    tells_next = tells_replied next.front.before next.front.state new before next.front.replied next.line r text next.replied

    -- the reply stands in the text of the outcome
    pub stands_in : (words : List (List ℕ)) (whole : List ℕ) (status : Status) → Asks words request → request.command ≡ Session → IsOutcome words bytes status whole → (behind : List ℕ) × (whole ≡ before ++ (text ++ behind))
    stands_in words whole status asks session outcome =
        elim (ends_or_not r) [
          | inl is ↦
              let front = front_of_outcome law laws words bytes before whole status (request, asks, session, next.front) outcome in
              (front.0, subst (λ (z : List ℕ). whole ≡ before ++ (z ++ front.0)) (sym (end_has_none request next.front.state next.line new r text next.replied is)) front.1)
          | inr goes_on ↦
              let more = front_at request bytes next.lines new (before ++ text) next.front.fits (stands_next request bytes next.line next.lines next.front.state new before text r stands_before next.replied goes_on) in
              let front = front_of_outcome law laws words bytes (before ++ text) whole status (request, asks, session, more) outcome in
              (front.0, front.1 ∙ append_assoc before text front.0)
        ]

  module _ (bytes before : List ℕ) (new : State) (r : Reply) (text : List ℕ) (next : RepliesNextLive request bytes before new r text) where
    pub tells_live : TellsAsAsked request (sketch_in new) r text
    tells_live = tells_replied next.front.before next.front.state new before next.front.replied next.line r text next.replied

    stands_live : Stands request (in_time bytes) (next.line ∷ next.lines) next.front.state before
    stands_live = subst (λ (lines : List (List ℕ)). Stands request (in_time bytes) lines next.front.state before) next.next
        (record { before = next.front.before; parts = next.front.parts; replied = next.front.replied })

    pub stands_in_live : (words : List (List ℕ)) (whole : List ℕ) (status : Status) → Asks words request → request.command ≡ Live → IsOutcome words bytes status whole → (behind : List ℕ) × (whole ≡ before ++ (text ++ behind))
    stands_in_live words whole status asks live outcome =
        elim (ends_or_not r) [
          | inl is ↦
              let front = front_of_live law laws words bytes before whole status (request, asks, live, next.front) outcome in
              (front.0, subst (λ (z : List ℕ). whole ≡ before ++ (z ++ front.0)) (sym (end_has_none request next.front.state next.line new r text next.replied is)) front.1)
          | inr goes_on ↦
              let on = stands_next request (in_time bytes) next.line next.lines next.front.state new before text r stands_live next.replied goes_on in
              let more : RepliesInTime request bytes (before ++ text) = record { before = on.before; after = next.lines; parts = on.parts; state = new; replied = on.replied } in
              let front = front_of_live law laws words bytes (before ++ text) whole status (request, asks, live, more) outcome in
              (front.0, front.1 ∙ append_assoc before text front.0)
        ]
