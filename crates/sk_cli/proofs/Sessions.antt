-- Sessions, line by line.
use Rattle.std.proofs.Common.{◌≡◌, ◌≢◌, ◌⊎◌, inl, inr, ℕ, ◌+◌, ◌≤◌, List, [], ◌∷◌, ◌++◌, length, take, refl, sym, ap, subst, ◌∙◌, arith, Option, Some, None, append_assoc, length-append}
use Rattle.std.proofs.lemmas.Bool.{cases_lt}
use Rattle.std.proofs.lemmas.List.{append-nil}
use Rattle.std.proofs.Math.Seq.{take-append-add}
use Rattle.std.specs.Io.KnownBytes.{Appends}
use Rattle.sk_io.specs.Causes.{AnswersFault}
use Rattle.sk_io.proofs.Moved.{Appends-more}
use Rattle.sk_base.specs.declared.Sketch.{Sketch}
use Rattle.sk_lines.specs.Lines.{lines_in}
use Rattle.sk_session.specs.declared.Reply.{Reply}
use Rattle.sk_session.specs.declared.Reply.TheVariants as reply
use Rattle.sk_session.specs.State.{State, sketch_in}
use Rattle.sk_session.specs.Replies.{Answers}
use Rattle.sk_request.specs.declared.Request.{Request}
use Rattle.sk_answers.specs.declared.Status.{Status}
use Rattle.sk_answers.specs.declared.Status.TheVariants.{Done, WriteFault, NoMemory}
use Rattle.sk_cli.specs.SessionAnswer.{SessionKeys, IsReplyText, IsReplied, AreReplied, at_start, RepliesToFront, session_keys}
use Rattle.sk_cli.specs.SessionEnding.{SessionEnds, IsStopped}
use Rattle.sk_cli.specs.Told.{told}

-- the text of a reply that is told
pub told_is_text : (keys : SessionKeys) (s : Sketch) (r : Reply) (text : List ℕ) → r ≢ reply.Solve → text ≡ told s r → IsReplyText keys s r text
told_is_text keys s reply.Blank text other is = is
told_is_text keys s reply.Done text other is = is
told_is_text keys s (reply.Declared e) text other is = is
told_is_text keys s (reply.Constrained k) text other is = is
told_is_text keys s (reply.Refused code) text other is = is
told_is_text keys s (reply.Checked j) text other is = is
told_is_text keys s (reply.Planned p) text other is = is
told_is_text keys s (reply.NotWell j) text other is = is
told_is_text keys s reply.Solve text other is = absurd (other refl)
told_is_text keys s reply.Write text other is = is
told_is_text keys s reply.End text other is = is

-- each reply ends the session or doesn't
pub ends_or_not : (r : Reply) → (r ≡ reply.End) ⊎ (r ≢ reply.End)
ends_or_not reply.Blank = inr (λ same. cc)
ends_or_not reply.Done = inr (λ same. cc)
ends_or_not (reply.Declared e) = inr (λ same. cc)
ends_or_not (reply.Constrained k) = inr (λ same. cc)
ends_or_not (reply.Refused code) = inr (λ same. cc)
ends_or_not (reply.Checked j) = inr (λ same. cc)
ends_or_not (reply.Planned p) = inr (λ same. cc)
ends_or_not (reply.NotWell j) = inr (λ same. cc)
ends_or_not reply.Solve = inr (λ same. cc)
ends_or_not reply.Write = inr (λ same. cc)
ends_or_not reply.End = inl refl

-- where no fault is answered, none was counted
pub not_counted : (answered : Type 0) (before now : ℕ) → AnswersFault answered before now → ¬ answered → now ≡ before
not_counted answered before now fault none =
    elim (cases_lt before now) [
      | inl more ↦ absurd (none (fault.told more))
      | inr few ↦ (let later = fault.later in omega (arith, few, later))
    ]

-- the reply that ends the session has no text
pub end_has_none : (request : Request) (old : State) (line : List ℕ) (new : State) (r : Reply) (text : List ℕ) → IsReplied request old line new r text → r ≡ reply.End → text ≡ []
end_has_none request old line new r text replied is = subst (λ (z : Reply). IsReplyText (session_keys request) (sketch_in new) z text) is replied.says

-- one more line is answered
pub replied_more : (request : Request) (old : State) (before : List (List ℕ)) (mid : State) (text : List ℕ) → AreReplied request old before mid text
    → (line : List ℕ) (new : State) (r : Reply) (more : List ℕ) → IsReplied request mid line new r more → r ≢ reply.End
    → AreReplied request old (before ++ line ∷ []) new (text ++ more)
replied_more request old [] mid text (mid_is, text_is) line new r more replied goes_on = (
  r,
  new,
  more,
  [],
  subst (λ (z : State). IsReplied request z line new r more) mid_is replied,
  goes_on,
  (refl, refl),
  ap (λ front. front ++ more) text_is ∙ sym (append-nil more),
)
replied_more request old (first ∷ before) mid text (q, next, said, rest, here, on, further, text_is) line new r more replied goes_on = (
  q,
  next,
  said,
  rest ++ more,
  here,
  on,
  replied_more request next before mid rest further line new r more replied goes_on,
  ap (λ front. front ++ more) text_is ∙ append_assoc said rest more,
)

-- where a session stands: the lines before the rest are answered
pub record Stands (request : Request) (bytes : List ℕ) (rest : List (List ℕ)) (state : State) (text : List ℕ) : Type 0 where
  pub before : List (List ℕ)
  pub parts : lines_in bytes ≡ before ++ rest
  pub replied : AreReplied request (at_start request.order) before state text

pub stands_first : (request : Request) (bytes : List ℕ) → Stands request bytes (lines_in bytes) (at_start request.order) []
stands_first request bytes = record { before = []; parts = refl; replied = (refl, refl) }

pub stands_next : (request : Request) (bytes line : List ℕ) (rest : List (List ℕ)) (state new : State) (text more : List ℕ) (r : Reply)
    → Stands request bytes (line ∷ rest) state text → IsReplied request state line new r more → r ≢ reply.End → Stands request bytes rest new (text ++ more)
stands_next request bytes line rest state new text more r at replied goes_on = record {
  before = at.before ++ line ∷ [];
  parts = at.parts ∙ sym (append_assoc at.before (line ∷ []) rest);
  replied = replied_more request (at_start request.order) at.before state text at.replied line new r more replied goes_on;
}

pub front_at : (request : Request) (bytes : List ℕ) (rest : List (List ℕ)) (state : State) (text : List ℕ) → length bytes ≤ 1048576 → Stands request bytes rest state text → RepliesToFront request bytes text
front_at request bytes rest state text fits at = record { fits = fits; before = at.before; after = rest; parts = at.parts; state = state; replied = at.replied }

-- each text that is written fits into the room
abbrev pub AllFit : Request → List ℕ → ℕ → Type 0
AllFit request bytes room = (text : List ℕ) → RepliesToFront request bytes text → length text ≤ room

-- what the sink has gained where a session stands, and the room that is left then
abbrev pub HasGained : Request → List ℕ → List (List ℕ) → State → Option (List ℕ) → Option (List ℕ) → ℕ → ℕ → Type 0
HasGained request bytes rest state old new first room =
    (text : List ℕ) × Appends old new text × Stands request bytes rest state text × (AllFit request bytes first → first ≤ room + length text)

nothing_gained : (a : Option (List ℕ)) → Appends a a []
nothing_gained None = tt
nothing_gained (Some xs) = sym (append-nil xs)

pub gained_first : (request : Request) (bytes : List ℕ) (state : State) (old : Option (List ℕ)) (room : ℕ) → state ≡ at_start request.order → HasGained request bytes (lines_in bytes) state old old room room
gained_first request bytes state old room is =
    ([], nothing_gained old, subst (λ (z : State). Stands request bytes (lines_in bytes) z []) (sym is) (stands_first request bytes), λ fit. omega arith)

-- the text of a reply fits where all do
pub fits_next : (request : Request) (bytes line : List ℕ) (rest : List (List ℕ)) (state : State) (old here : Option (List ℕ)) (first room : ℕ) → length bytes ≤ 1048576
    → HasGained request bytes (line ∷ rest) state old here first room → AllFit request bytes first
    → (new : State) (r : Reply) (text : List ℕ) → IsReplied request state line new r text → length text ≤ room
fits_next request bytes line rest state old here first room few (so_far, appended, at, left) fit new r text replied =
    elim (ends_or_not r) [
      | inl is ↦ (let none : length text ≡ 0 = ap length (end_has_none request state line new r text replied is) in omega (arith, none))
      | inr goes_on ↦
          let whole = fit (so_far ++ text) (front_at request bytes rest new (so_far ++ text) few (stands_next request bytes line rest state new so_far text r at replied goes_on)) in
          let sum = length-append so_far text in
          let enough = left fit in
          omega (arith, whole, sum, enough)
    ]

pub gained_next : (request : Request) (bytes line : List ℕ) (rest : List (List ℕ)) (state : State) (old here now : Option (List ℕ)) (first room after : ℕ) → length bytes ≤ 1048576
    → HasGained request bytes (line ∷ rest) state old here first room
    → (new : State) (r : Reply) (text : List ℕ) → IsReplied request state line new r text → r ≢ reply.End → Appends here now text → (length text ≤ room → room ≤ after + length text)
    → HasGained request bytes rest new old now first after
gained_next request bytes line rest state old here now first room after few (so_far, appended, at, left) new r text replied goes_on more kept = (
  so_far ++ text,
  Appends-more old here now so_far text appended more,
  stands_next request bytes line rest state new so_far text r at replied goes_on,
  λ fit.
      let fits = fits_next request bytes line rest state old here first room few (so_far, appended, at, left) fit new r text replied in
      let sum = length-append so_far text in
      let enough = left fit in
      let further = kept fits in
      omega (arith, sum, enough, further),
)

-- how a session ends that stops at a line
pub stopped_ends : (request : Request) (bytes line : List ℕ) (rest : List (List ℕ)) (state : State) (old here now : Option (List ℕ)) (first room : ℕ) → length bytes ≤ 1048576
    → HasGained request bytes (line ∷ rest) state old here first room → (new : State) (status : Status) → IsStopped request state line new here now status
    → (gained : List ℕ) × Appends old now gained × SessionEnds request bytes status gained
stopped_ends request bytes line rest state old here now first room few (so_far, appended, at, left) new WriteFault (r, text, replied, goes_on, (n, within, front)) =
    let sum = length-append so_far text in (
      so_far ++ take n text,
      Appends-more old here now so_far (take n text) appended front,
      (
        so_far ++ text,
        length so_far + n,
        front_at request bytes rest new (so_far ++ text) few (stands_next request bytes line rest state new so_far text r at replied goes_on),
        omega (arith, sum, within),
        sym (take-append-add so_far text n),
      ),
    )
stopped_ends request bytes line rest state old here now first room few (so_far, appended, at, left) new NoMemory none =
    let same = append-nil so_far in (
      so_far ++ [],
      Appends-more old here now so_far [] appended none,
      subst (λ (z : List ℕ). RepliesToFront request bytes z) (sym same) (front_at request bytes (line ∷ rest) state so_far few at),
    )
stopped_ends request bytes line rest state old here now first room few gained new status stopped = absurd stopped

-- how a session ends at a line that ends it
pub ended_ends : (request : Request) (bytes line : List ℕ) (rest : List (List ℕ)) (state : State) (old here now : Option (List ℕ)) (first room : ℕ) → length bytes ≤ 1048576
    → HasGained request bytes (line ∷ rest) state old here first room → (new : State) (r : Reply) (text : List ℕ) → IsReplied request state line new r text → r ≡ reply.End → Appends here now text
    → (gained : List ℕ) × Appends old now gained × SessionEnds request bytes Done gained
unfolding front_at
ended_ends request bytes line rest state old here now first room few (so_far, appended, at, left) new r text replied ends more =
    let none : so_far ++ text ≡ so_far = ap (λ z. so_far ++ z) (end_has_none request state line new r text replied ends) ∙ append-nil so_far in (
      so_far,
      subst (λ (z : List ℕ). Appends old now z) none (Appends-more old here now so_far text appended more),
      (front_at request bytes (line ∷ rest) state so_far few at, (new, subst (λ (z : Reply). Answers state line z new) ends replied.answers)),
    )

-- how a session ends behind its last line
pub spent_ends : (request : Request) (bytes : List ℕ) (state : State) (old here : Option (List ℕ)) (first room : ℕ) → length bytes ≤ 1048576
    → HasGained request bytes [] state old here first room → (gained : List ℕ) × Appends old here gained × SessionEnds request bytes Done gained
unfolding front_at
spent_ends request bytes state old here first room few (so_far, appended, at, left) = (so_far, appended, (front_at request bytes [] state so_far few at, tt))

-- a session that can't be begun
pub begun_ends : (request : Request) (bytes : List ℕ) (old : Option (List ℕ)) → length bytes ≤ 1048576 → (gained : List ℕ) × Appends old old gained × SessionEnds request bytes NoMemory gained
begun_ends request bytes old few = ([], nothing_gained old, front_at request bytes (lines_in bytes) (at_start request.order) [] few (stands_first request bytes))
