-- What turns answer is what a session replies.
use Rattle.std.proofs.Common.{◌≡◌, ◌≢◌, ◌⊎◌, ℕ, ◌+◌, ◌-◌, ◌≤◌, false, Option, Some, None, arith, append-nil, length-append, List, [], ◌∷◌, ◌++◌, length, take, refl, sym, ap, subst, ◌∙◌, inl, inr}
use Rattle.std.proofs.lemmas.List.Elements.{All-nil}
use Rattle.std.proofs.Math.Seq.{take-append-add}
use Rattle.std.specs.Prelude.{All, Err, IsErrOf}
use Rattle.std.specs.Io.KnownBytes.{Appends, Consumes, Keeps}
use Rattle.sk_io.specs.Causes.{AnswersFault}
use Rattle.sk_io.specs.Transfer.{TakesAtMost}
use Rattle.sk_io.proofs.Moved.{Appends-more, Consumes-more}
use Rattle.sk_lines.specs.Lines.{is_line_feed, lines_in, EndsLine}
use Rattle.sk_request.specs.declared.Request.{Request}
use Rattle.sk_live_lines.specs.Answering.{AreAnswered, AnswersSome, HasEnded, Ends, IsTold}
use Rattle.sk_live_lines.specs.Heard.{HasHeard, HasRoom, AreWithin, KeepsRoom, GoesOn, EndsTurn, IsDone}
use Rattle.sk_live_lines.specs.declared.TurnEnd.{TurnEnd}
use Rattle.sk_live_lines.specs.InTime.{in_time, whole_lines}
use Rattle.sk_live_lines.proofs.InTimes.{whole_front, none_whole}
use Rattle.sk_live_lines.proofs.TurnEnds.{none_taken}
use Rattle.sk_live_lines.specs.declared.TurnEnd.TheVariants as turn_end
use Rattle.sk_answers.specs.declared.Status.TheVariants.{Done, Refused, ReadFault, WriteFault, NoMemory}
use Rattle.sk_cli.specs.LiveAnswer.{Sat, begun, late_line, IsSaid, IsEnd, RepliesInTime}
use Rattle.sk_cli.specs.LiveEnding.{LiveEnds, LiveTakes, AnswersTaken, AllLiveFit, TellsLate, EndsWith}
use Rattle.sk_answers.specs.declared.Status.{Status}
use Rattle.sk_cli.specs.SessionAnswer.{IsReplied, AreReplied, EndsSession, at_start}

pub nothing_heard : (request : Request) → HasHeard IsSaid (begun request) [] [] (begun request) []
nothing_heard request = record {
  lines = [];
  line = [];
  cut = refl;
  whole = inl refl;
  solid = All-nil (λ b. is_line_feed b ≡ false);
  kept_is = refl;
  answered = (refl, refl);
}

-- lines that are answered in turn are replied to
pub replied_in_turn : (request : Request) (lines : List (List ℕ)) (old new : Sat) (text : List ℕ) → old.request ≡ request → AreAnswered IsSaid old lines new text → AreReplied request old.state lines new.state text
replied_in_turn request [] old new text same (new_is, text_is) = (ap (λ (z : Sat). z.state) new_is, text_is)
replied_in_turn request (line ∷ lines) old new text same (next, first, rest, (kept, (r, replied, goes_on)), further, text_is) = (
  r,
  next.state,
  first,
  rest,
  subst (λ (z : Request). IsReplied z old.state line next.state r first) same replied,
  goes_on,
  replied_in_turn request lines next new rest (kept ∙ same) further,
  text_is,
)

abbrev pub some_in_time : (request : Request) (bytes text : List ℕ) → AnswersSome IsSaid (begun request) (lines_in (in_time bytes)) text → RepliesInTime request bytes text
some_in_time request bytes text some = record {
  before = some.before;
  after = some.after;
  parts = some.parts;
  state = some.now.state;
  replied = replied_in_turn request some.before (begun request) some.now text refl some.answered;
}

ended_at : (now : Sat) (lines : List (List ℕ)) → HasEnded IsEnd now lines → HasEnded EndsSession now.state lines
ended_at now [] over = tt
ended_at now (line ∷ lines) over = over

-- how `live` ends where turns end so
pub done_ends : (request : Request) (bytes gained : List ℕ) → Ends IsSaid IsEnd (begun request) bytes turn_end.Done gained → LiveEnds request bytes Done gained
done_ends request bytes gained (some, over, fits) = (some_in_time request bytes gained some, ended_at some.now some.after over, fits)

pub failed_write_ends : (request : Request) (bytes gained : List ℕ) → Ends IsSaid IsEnd (begun request) bytes turn_end.WriteFault gained → LiveEnds request bytes WriteFault gained
failed_write_ends request bytes gained (text, n, some, within, is) = (text, n, inl (some_in_time request bytes text some), within, is)

pub failed_read_ends : (request : Request) (bytes gained : List ℕ) → Ends IsSaid IsEnd (begun request) bytes turn_end.ReadFault gained → LiveEnds request bytes ReadFault gained
failed_read_ends request bytes gained some = some_in_time request bytes gained some

pub starved_ends : (request : Request) (bytes gained : List ℕ) → Ends IsSaid IsEnd (begun request) bytes turn_end.NoMemory gained → LiveEnds request bytes NoMemory gained
starved_ends request bytes gained some = some_in_time request bytes gained some

-- how `live` ends where turns end so, with what is written then
pub with_end : (request : Request) (bytes text : List ℕ) (end : TurnEnd) (before now : Option (List ℕ)) (status : Status) → Ends IsSaid IsEnd (begun request) bytes end text → EndsWith end before now status
    → (more : List ℕ) × Appends before now more × LiveEnds request bytes status (text ++ more)
with_end request bytes text turn_end.Done before now status ends (is, none) =
    ([], none, subst (λ (z : Status). LiveEnds request bytes z (text ++ [])) (sym is) (subst (λ (z : List ℕ). LiveEnds request bytes Done z) (sym (append-nil text)) (done_ends request bytes text ends)))
with_end request bytes text turn_end.ReadFault before now status ends (is, none) =
    ([], none, subst (λ (z : Status). LiveEnds request bytes z (text ++ [])) (sym is) (subst (λ (z : List ℕ). LiveEnds request bytes ReadFault z) (sym (append-nil text)) (failed_read_ends request bytes text ends)))
with_end request bytes text turn_end.WriteFault before now status ends (is, none) =
    ([], none, subst (λ (z : Status). LiveEnds request bytes z (text ++ [])) (sym is) (subst (λ (z : List ℕ). LiveEnds request bytes WriteFault z) (sym (append-nil text)) (failed_write_ends request bytes text ends)))
with_end request bytes text turn_end.NoMemory before now status ends (is, none) =
    ([], none, subst (λ (z : Status). LiveEnds request bytes z (text ++ [])) (sym is) (subst (λ (z : List ℕ). LiveEnds request bytes NoMemory z) (sym (append-nil text)) (starved_ends request bytes text ends)))
with_end request bytes text turn_end.TooLong before now status ends tells = late_end request bytes text before now status ends tells
  where
    late_end : (request : Request) (bytes text : List ℕ) (before now : Option (List ℕ)) (status : Status) → Ends IsSaid IsEnd (begun request) bytes turn_end.TooLong text → TellsLate before now status
        → (more : List ℕ) × Appends before now more × LiveEnds request bytes status (text ++ more)
    late_end request bytes text before now Refused (some, none, long) tells = (late_line, tells, (text, (some_in_time request bytes text some, none, long, refl)))
    late_end request bytes text before now NoMemory (some, none, long) tells = ([], tells, subst (λ (z : List ℕ). LiveEnds request bytes NoMemory z) (sym (append-nil text)) (some_in_time request bytes text some))
    late_end request bytes text before now WriteFault (some, none, long) (n, within, front) =
        let sum = length-append text late_line in
        (take n late_line, front, (text ++ late_line, length text + n, inr (text, (some_in_time request bytes text some, none, long, refl)), omega (arith, sum, within), sym (take-append-add text late_line n)))
    late_end request bytes text before now status ends tells = absurd tells

-- where nothing is told of the status of an end but what it is
pub read_same : (end : TurnEnd) (before now : Option (List ℕ)) (status : Status) → EndsWith end before now status → (status ≡ ReadFault → end ≡ turn_end.ReadFault) × (end ≡ turn_end.ReadFault → status ≡ ReadFault)
read_same turn_end.Done before now status (is, none) = (λ same. cc, λ same. cc)
read_same turn_end.ReadFault before now status (is, none) = (λ same. refl, λ same. is)
read_same turn_end.WriteFault before now status (is, none) = (λ same. cc, λ same. cc)
read_same turn_end.NoMemory before now status (is, none) = (λ same. cc, λ same. cc)
read_same turn_end.TooLong before now status tells = (λ same. absurd (subst (λ (z : Status). TellsLate before now z) same tells), λ same. cc)

pub write_same : (end : TurnEnd) (before now : Option (List ℕ)) (status : Status) → EndsWith end before now status → end ≢ turn_end.TooLong → (status ≡ WriteFault → end ≡ turn_end.WriteFault) × (end ≡ turn_end.WriteFault → status ≡ WriteFault)
write_same turn_end.Done before now status (is, none) other = (λ same. cc, λ same. cc)
write_same turn_end.ReadFault before now status (is, none) other = (λ same. cc, λ same. cc)
write_same turn_end.WriteFault before now status (is, none) other = (λ same. refl, λ same. is)
write_same turn_end.NoMemory before now status (is, none) other = (λ same. cc, λ same. cc)
write_same turn_end.TooLong before now status tells other = absurd (other refl)

pub failed_status : (end : TurnEnd) (before now : Option (List ℕ)) (status : Status) → EndsWith end before now status → end ≡ turn_end.WriteFault → status ≡ WriteFault
failed_status end before now status with same = (subst (λ (e : TurnEnd). EndsWith e before now status) same with).0

pub late_or_not : (end : TurnEnd) → (end ≡ turn_end.TooLong) ⊎ (end ≢ turn_end.TooLong)
late_or_not turn_end.Done = inr (λ same. cc)
late_or_not turn_end.ReadFault = inr (λ same. cc)
late_or_not turn_end.WriteFault = inr (λ same. cc)
late_or_not turn_end.NoMemory = inr (λ same. cc)
late_or_not turn_end.TooLong = inl refl

-- an end of turns, and the error that says so
pub as_error : {T : Type 0} (end other : TurnEnd) → end ≡ other → IsErrOf {T = T} (Err end) other
as_error end other is = cc

pub as_end : {T : Type 0} (end other : TurnEnd) → IsErrOf {T = T} (Err end) other → end ≡ other
as_end end other is = cc

-- a fault that turns answer, under the name of a status
pub fault_of_end : {T : Type 0} (end told : TurnEnd) (status wanted : Status) (before now : ℕ) → (status ≡ wanted → end ≡ told) → (end ≡ told → status ≡ wanted)
    → AnswersFault (IsErrOf {T = T} (Err end) told) before now → AnswersFault (status ≡ wanted) before now
fault_of_end end told status wanted before now back there fault =
    record { later = fault.later; caused = λ is. fault.caused (as_error end told (back is)); told = λ rose. there (as_end end told (fault.told rose)) }

-- what was told to be left
pub told_bytes : (left : Option (List ℕ)) → (bytes : List ℕ) × IsTold left bytes
told_bytes None = ([], tt)
told_bytes (Some bytes) = (bytes, refl)

pub told_before : (left here : Option (List ℕ)) (taken rest : List ℕ) → Consumes left here taken → IsTold here rest → IsTold left (taken ++ rest)
told_before None here taken rest takes told = tt
told_before (Some bytes) None taken rest takes told = absurd takes
told_before (Some bytes) (Some behind) taken rest takes told = ap (λ (z : List ℕ). taken ++ z) told ∙ sym takes

-- how `live` ends behind some turns
pub live_ends : (request : Request) (left here behind old before mid now : Option (List ℕ)) (kept : List ℕ) (count : ℕ) (sitting : Sat) (taken : List ℕ) (end : TurnEnd) (status : Status)
    → Consumes left here taken → count ≡ length taken → GoesOn IsSaid [] (begun request) old kept sitting before taken
    → ((first : Sat) (taken text : List ℕ) → HasHeard IsSaid first taken kept sitting text → count ≡ length taken → EndsTurn IsSaid IsEnd first taken text here behind before mid end)
    → EndsWith end mid now status → (bytes : List ℕ) × (gained : List ℕ) × IsTold left bytes × Appends old now gained × LiveEnds request bytes status gained
live_ends request left here behind old before mid now kept count sitting taken end status takes is goes_on ended with =
    let (more, appended, heard) = goes_on (begun request) [] [] (nothing_heard request) in
    let (piece, rest, further, takes', told, appended', ends) = ended (begun request) taken more heard is in
    let (last, appended'', lives) = with_end request (taken ++ (piece ++ rest)) (more ++ further) end mid now status ends with in (
      taken ++ (piece ++ rest),
      (more ++ further) ++ last,
      told_before left here taken (piece ++ rest) takes (told_before here behind piece rest takes' told),
      Appends-more old mid now (more ++ further) last (Appends-more old before mid more further appended appended') appended'',
      lives,
    )

-- the whole lines of what was taken
lines_taken : (taken lines line : List ℕ) → taken ≡ lines ++ line → EndsLine lines → All (λ b. is_line_feed b ≡ false) line → whole_lines taken ≡ lines
lines_taken taken lines line cut whole solid =
    ap whole_lines cut
    ∙ whole_front lines line whole
    ∙ ap (λ (z : List ℕ). lines ++ z) (none_whole line solid)
    ∙ append-nil lines

answers_taken : (request : Request) (taken kept : List ℕ) (sitting : Sat) (text : List ℕ) → HasHeard IsSaid (begun request) taken kept sitting text → AnswersTaken request taken text
answers_taken request taken kept sitting text heard =
    let whole = lines_taken taken heard.lines heard.line heard.cut heard.whole heard.solid in (
      sitting.state,
      subst (λ (z : List ℕ). AreReplied request (at_start request.order) (lines_in z) sitting.state text) (sym whole)
          (replied_in_turn request (lines_in heard.lines) (begun request) sitting text refl heard.answered),
    )

same_gained : (old now later : Option (List ℕ)) (text : List ℕ) → Appends old now text → Appends now later [] → Appends old later text
same_gained old now later text appended none = subst (λ (z : List ℕ). Appends old later z) (append-nil text) (Appends-more old now later text [] appended none)

-- what `live` takes behind some turns
pub live_taken : (request : Request) (left here after old before mid now : Option (List ℕ)) (kept : List ℕ) (sitting : Sat) (taken all : List ℕ) (end : TurnEnd) (status : Status)
    → Consumes left here taken → GoesOn IsSaid [] (begun request) old kept sitting before taken
    → (end ≡ turn_end.Done → (first : Sat) (taken text : List ℕ) → HasHeard IsSaid first taken kept sitting text → IsDone IsSaid IsEnd first taken text here after before mid)
    → (end ≡ turn_end.ReadFault → Appends before mid [] × Keeps here after)
    → EndsWith end mid now status → Appends old now all → (gained : List ℕ) × Appends old now gained × LiveTakes request status left after gained
live_taken request left here after old before mid now kept sitting taken all turn_end.Done status takes goes_on done failed (is, none) appended_all =
    let (more, appended, heard) = goes_on (begun request) [] [] (nothing_heard request) in
    let (piece, few, takes', how) = done refl (begun request) taken more heard in
    let takes_both = Consumes-more left here after taken piece takes takes' in
    elim how [
      | inl over ↦ (
        all,
        appended_all,
        subst (λ (z : Status). LiveTakes request z left after all) (sym is) (
          taken,
          subst (λ (z : List ℕ). Consumes left after z) (ap (λ (z : List ℕ). taken ++ z) over.0 ∙ append-nil taken) takes_both,
          inl (over.1, (more, answers_taken request taken kept sitting more heard)),
        ),
      )
      | inr found ↦ (
          let (further, behind, appended', ended, fewer) = found in (
            more ++ further,
            same_gained old mid now (more ++ further) (Appends-more old before mid more further appended appended') none,
            subst (λ (z : Status). LiveTakes request z left after (more ++ further)) (sym is) (taken ++ piece, takes_both, inr (behind, omega (arith, few, fewer), ended)),
          ))
    ]
live_taken request left here after old before mid now kept sitting taken all turn_end.ReadFault status takes goes_on done failed (is, none) appended_all =
    let (more, appended, heard) = goes_on (begun request) [] [] (nothing_heard request) in
    let (same, keeps) = failed refl in (
      more,
      same_gained old mid now more (same_gained old before mid more appended same) none,
      subst (λ (z : Status). LiveTakes request z left after more) (sym is) (
        taken,
        subst (λ (z : List ℕ). Consumes left after z) (append-nil taken) (Consumes-more left here after taken [] takes (none_taken here after keeps)),
        answers_taken request taken kept sitting more heard,
      ),
    )
live_taken request left here after old before mid now kept sitting taken all turn_end.WriteFault status takes goes_on done failed (is, none) appended_all =
    (all, appended_all, subst (λ (z : Status). LiveTakes request z left after all) (sym is) tt)
live_taken request left here after old before mid now kept sitting taken all turn_end.NoMemory status takes goes_on done failed (is, none) appended_all =
    (all, appended_all, subst (λ (z : Status). LiveTakes request z left after all) (sym is) tt)
live_taken request left here after old before mid now kept sitting taken all turn_end.TooLong status takes goes_on done failed tells appended_all = (all, appended_all, by status tells)
  where
    by : (status : Status) → TellsLate mid now status → LiveTakes request status left after all
    by Refused tells = tt
    by WriteFault tells = tt
    by NoMemory tells = tt
    by status tells = absurd tells

-- so much at most is taken behind some turns
pub live_few : (left here after : Option (List ℕ)) (taken : List ℕ) (count : ℕ) → Consumes left here taken → count ≡ length taken → count ≤ 4294967295 → TakesAtMost (4294967296 - count) here after
    → TakesAtMost 4294967296 left after
live_few left here after taken count takes is bound (bytes, few, takes') =
    let sum = length-append taken bytes in
    (taken ++ bytes, omega (arith, sum, is, bound, few), Consumes-more left here after taken bytes takes takes')

-- the replies to what is told fit
pub live_within : (request : Request) (left : Option (List ℕ)) (room : ℕ) (bytes : List ℕ) → AllLiveFit request left room → IsTold left bytes → AreWithin IsSaid (begun request) bytes room
live_within request left room bytes each told text some = each bytes text told (inl (some_in_time request bytes text some))

-- the room behind some turns
pub live_room : (request : Request) (left here : Option (List ℕ)) (first room : ℕ) (kept : List ℕ) (sitting : Sat) (taken : List ℕ) → Consumes left here taken → length taken ≤ 4294967295
    → KeepsRoom IsSaid [] (begun request) first kept sitting room taken → AllLiveFit request left first → HasRoom IsSaid (begun request) taken kept sitting first room
live_room request left here first room kept sitting taken takes fits keeps each =
    let told = told_bytes here in
    keeps (begun request) [] told.0 first fits (live_within request left first (taken ++ told.0) each (told_before left here taken told.0 takes told.1)) ([], nothing_heard request, omega arith)

-- that the input is too long fits too
pub late_fits : (request : Request) (left here behind : Option (List ℕ)) (first room : ℕ) (kept : List ℕ) (count : ℕ) (sitting : Sat) (taken : List ℕ) → Consumes left here taken → count ≡ length taken → AllLiveFit request left first
    → HasRoom IsSaid (begun request) taken kept sitting first room
    → ((first : Sat) (taken text : List ℕ) → HasHeard IsSaid first taken kept sitting text → count ≡ length taken
    → (piece : List ℕ) × (rest : List ℕ) × Consumes here behind piece × IsTold behind rest × Ends IsSaid IsEnd first (taken ++ (piece ++ rest)) turn_end.TooLong text)
    → length late_line ≤ room
late_fits request left here behind first room kept count sitting taken takes is each (text, heard, enough) ended =
    let (piece, rest, takes', told, (some, none, long)) = ended (begun request) taken text heard is in
    let few = each (taken ++ (piece ++ rest)) (text ++ late_line) (told_before left here taken (piece ++ rest) takes (told_before here behind piece rest takes' told))
    (inr (text, (some_in_time request (taken ++ (piece ++ rest)) text some, none, long, refl))) in
    let sum = length-append text late_line in
    omega (arith, few, sum, enough)

-- before the first piece
pub nothing_gained : (a : Option (List ℕ)) → Appends a a []
nothing_gained None = tt
nothing_gained (Some xs) = sym (append-nil xs)

pub nothing_taken : (a : Option (List ℕ)) → Consumes a a []
nothing_taken None = tt
nothing_taken (Some xs) = refl

pub no_byte_taken : (replies : Sat → List ℕ → Sat → List ℕ → Type 0) (state : Sat) (before : Option (List ℕ)) → GoesOn replies [] state before [] state before []
no_byte_taken replies state before first taken text at =
    ([], nothing_gained before, subst (λ (z : List ℕ). HasHeard replies first z [] state (text ++ [])) (sym (append-nil taken)) (subst (λ (z : List ℕ). HasHeard replies first taken [] state z) (sym (append-nil text)) at))

pub begun_is : (request : Request) (room : ℕ) → KeepsRoom IsSaid [] (begun request) room [] (begun request) room []
begun_is request room first taken rest most fits within (text, at, enough) = (text, subst (λ (z : List ℕ). HasHeard IsSaid first z [] (begun request) text) (sym (append-nil taken)) at, enough)

-- a session that can't be begun
pub live_unbegun : (request : Request) (left old : Option (List ℕ)) → (bytes : List ℕ) × (gained : List ℕ) × IsTold left bytes × Appends old old gained × LiveEnds request bytes NoMemory gained
live_unbegun request left old =
    let told = told_bytes left in
    (told.0, [], told.1, nothing_gained old, record { before = []; after = lines_in (in_time told.0); parts = refl; state = at_start request.order; replied = (refl, refl) })
