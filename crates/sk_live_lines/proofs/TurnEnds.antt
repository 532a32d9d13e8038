-- How a turn ends.
use Rattle.std.proofs.Common.{◌≡◌, ℕ, ◌<◌, ◌≤◌, ◌-◌, false, min, List, [], ◌∷◌, ◌++◌, length, take, map, refl, sym, ap, subst, ◌∙◌, arith, inl, inr, None, Some, Option, append-nil, length-append}
use Rattle.std.specs.Prelude.{All, Result, Ok, Err, IsOk, IsErr, IsErrAnd, IsErrOf, IfErr, OnOk}
use Rattle.std.specs.Str.Lines.{strip_carriage_return}
use Rattle.std.specs.Io.KnownBytes.{Appends, Consumes, Keeps, IsAtEnd}
use Rattle.std.proofs.lemmas.Bool.{cases_lt}
use Rattle.std.proofs.lemmas.List.{length-take, nil_from_length, take_all}
use Rattle.std.proofs.lemmas.List.Elements.{All-take}
use Rattle.std.proofs.lemmas.List.Splits.{slice_split_none}
use Rattle.sk_io.specs.Causes.{AnswersFault}
use Rattle.sk_io.specs.Transfer.{TakesAtMost}
use Rattle.sk_lines.specs.Lines.{is_line_feed, without_empty_end, lines_in}
use Rattle.sk_lines.proofs.WholeLines.{lines_in-append}
use Rattle.sk_live_lines.specs.declared.ending.TurnEnd.{TurnEnd}
use Rattle.sk_live_lines.specs.declared.ending.TurnEnd.TheVariants.{Done, TooLong, ReadFault}
use Rattle.sk_live_lines.specs.Answering.{AreAnswered, AnswersSome, Ends, IsTold}
use Rattle.sk_live_lines.specs.Heard.{Heard, HasHeard, Stops, EndsHeard, EndsTurn}
use Rattle.sk_live_lines.specs.InTime.{in_time}
use Rattle.sk_live_lines.proofs.InTimes.{all_in_time, front_taken, late}
use Rattle.sk_live_lines.proofs.Hearings.{LongAlike, LongGoesOn, answered_more, kept_answered, some_so_far, stopped_at}

-- the bytes that are told, or any
pub told_bytes : (left : Option (List ℕ)) → (bytes : List ℕ) × IsTold left bytes
told_bytes None = ([], tt)
told_bytes (Some bytes) = (bytes, refl)

pub none_taken : (a b : Option (List ℕ)) → Keeps a b → Consumes a b []
none_taken None b keeps = tt
none_taken (Some xs) None keeps = absurd keeps
none_taken (Some xs) (Some ys) keeps = sym keeps

pub none_gained : (a b : Option (List ℕ)) → Keeps a b → Appends a b []
none_gained None b keeps = tt
none_gained (Some xs) None keeps = absurd keeps
none_gained (Some xs) (Some ys) keeps = keeps ∙ sym (append-nil xs)

pub nothing_gained : (a : Option (List ℕ)) → Appends a a []
nothing_gained None = tt
nothing_gained (Some xs) = sym (append-nil xs)

pub nothing_left : (a : Option (List ℕ)) → IsAtEnd a → IsTold a []
nothing_left None over = tt
nothing_left (Some xs) over = sym over

-- where no fault is answered, none was counted
pub not_counted : (answered : Type 0) (before now : ℕ) → AnswersFault answered before now → ¬ answered → now ≡ before
not_counted answered before now fault none =
    elim (cases_lt before now) [
      | inl more ↦ absurd (none (fault.told more))
      | inr few ↦ (let later = fault.later in omega (arith, few, later))
    ]

-- a line at the end of the input, without its line feed
pub last_alone : (line : List ℕ) → All (λ b. is_line_feed b ≡ false) line → 0 < length line → lines_in line ≡ strip_carriage_return line ∷ []
last_alone line solid some = ap (λ (parts : List (List ℕ)). map strip_carriage_return (without_empty_end parts)) (slice_split_none is_line_feed line solid) ∙ by line some
  where
    by : (line : List ℕ) → 0 < length line → map strip_carriage_return (without_empty_end (line ∷ [])) ≡ strip_carriage_return line ∷ []
    by [] some = absurd (omega arith)
    by (b ∷ line) some = refl

module _ {X : Type 0} (replies : X → List ℕ → X → List ℕ → Type 0) (ends : X → List ℕ → Type 0) where
  module _ (first : X) (taken kept : List ℕ) (now : X) (text : List ℕ) (at : HasHeard replies first taken kept now text) where
    -- nothing stands behind the lines
    pub finished_whole : length taken ≤ 4294967295 → at.line ≡ [] → Ends replies ends first taken Done (text ++ [])
    finished_whole fits none =
        let cut : taken ≡ at.lines = at.cut ∙ ap (λ (z : List ℕ). at.lines ++ z) none ∙ append-nil at.lines in (
          record {
            before = lines_in at.lines;
            after = [];
            parts = ap lines_in (all_in_time taken fits ∙ cut) ∙ sym (append-nil (lines_in at.lines));
            now = now;
            answered = subst (λ (z : List ℕ). AreAnswered replies first (lines_in at.lines) now z) (sym (append-nil text)) at.answered;
          },
          tt,
          λ same. fits,
        )

    -- the lines of an input that ends here
    pub finished_lines : length taken ≤ 4294967295 → 0 < length at.line → lines_in (in_time taken) ≡ lines_in at.lines ++ strip_carriage_return at.line ∷ []
    finished_lines fits some =
        ap lines_in (all_in_time taken fits ∙ at.cut) ∙ lines_in-append at.lines at.line at.whole ∙ ap (λ (ls : List (List ℕ)). lines_in at.lines ++ ls) (last_alone at.line at.solid some)

    line_there : 0 < length kept → 0 < length at.line
    line_there some = let size = ap length at.kept_is in let front = length-take 202 at.line in omega (arith, size, front, some)

    pub no_line : length kept ≡ 0 → at.line ≡ []
    no_line none = let size = ap length at.kept_is in let front = length-take 202 at.line in nil_from_length at.line (omega (arith, size, front, none))

    last_said : (bytes said : List ℕ) (rest : List (List ℕ)) → bytes ≡ kept → 0 < length kept → lines_in bytes ≡ said ∷ rest → said ≡ strip_carriage_return (take 202 at.line)
    last_said bytes said rest bytes_are some lines_are =
        let alone = last_alone kept (subst (λ (z : List ℕ). All (λ b. is_line_feed b ≡ false) z) (sym at.kept_is) (All-take (λ b. is_line_feed b ≡ false) 202 at.line at.solid)) some in
        let same : said ∷ rest ≡ strip_carriage_return kept ∷ [] = sym lines_are ∙ ap lines_in bytes_are ∙ alone in
        let first_is : said ≡ strip_carriage_return kept = cc in
        first_is ∙ ap strip_carriage_return at.kept_is

    -- the last line is answered
    pub finished_answered : LongAlike replies → length taken ≤ 4294967295 → (bytes said more : List ℕ) (rest : List (List ℕ)) (new : X) → bytes ≡ kept → 0 < length kept → lines_in bytes ≡ said ∷ rest → replies now said new more
        → Ends replies ends first taken Done (text ++ more)
    finished_answered alike fits bytes said more rest new bytes_are some lines_are replied =
        let heard = subst (λ (z : List ℕ). replies now z new more) (last_said bytes said rest bytes_are some lines_are) replied in (
          record {
            before = lines_in at.lines ++ strip_carriage_return at.line ∷ [];
            after = [];
            parts = finished_lines fits (line_there some) ∙ sym (append-nil (lines_in at.lines ++ strip_carriage_return at.line ∷ []));
            now = new;
            answered = answered_more replies first (lines_in at.lines) now text at.answered (strip_carriage_return at.line) new more (kept_answered replies alike now new at.line more heard);
          },
          tt,
          λ same. fits,
        )

    -- it stops at the last line
    pub finished_stopped : LongAlike replies → LongGoesOn replies ends → length taken ≤ 4294967295 → (bytes said : List ℕ) (rest : List (List ℕ)) → bytes ≡ kept → 0 < length kept → lines_in bytes ≡ said ∷ rest
        → (before gained : Option (List ℕ)) (end : TurnEnd) → Stops replies ends now said before gained end → (more : List ℕ) × Appends before gained more × Ends replies ends first taken end (text ++ more)
    finished_stopped alike short fits bytes said rest bytes_are some lines_are before gained end stops =
        stopped_at replies ends alike short first taken kept now text at at.line taken [] (finished_lines fits (line_there some)) before gained end
        (subst (λ (z : List ℕ). Stops replies ends now z before gained end) (last_said bytes said rest bytes_are some lines_are) stops)

    pub failed_turn : length taken ≤ 4294967295 → (left behind before : Option (List ℕ)) → Keeps left behind → EndsTurn replies ends first taken text left behind before before ReadFault
    failed_turn fits left behind before keeps =
        let told = told_bytes behind in (
          [],
          told.0,
          [],
          none_taken left behind keeps,
          told.1,
          nothing_gained before,
          subst (λ (z : List ℕ). AnswersSome replies first (lines_in (in_time (taken ++ told.0))) z) (sym (append-nil text)) (some_so_far replies ends first taken kept now text told.0 at fits),
        )

    pub late_turn : length taken ≡ 4294967295 → (left behind before : Option (List ℕ)) (piece : List ℕ) → 0 < length piece → Consumes left behind piece → EndsTurn replies ends first taken text left behind before before TooLong
    late_turn full left behind before piece some takes =
        let told = told_bytes behind in
        let sum = length-append piece told.0 in
        let is = late (taken ++ (piece ++ told.0)) at.lines at.line (piece ++ told.0) (ap (λ (z : List ℕ). z ++ (piece ++ told.0)) at.cut) at.whole at.solid (ap length (sym at.cut) ∙ full) (omega (arith, some, sum)) in (
          piece,
          told.0,
          [],
          takes,
          told.1,
          nothing_gained before,
          (
            record {
              before = lines_in at.lines;
              after = [];
              parts = ap lines_in is.0 ∙ sym (append-nil (lines_in at.lines));
              now = now;
              answered = subst (λ (z : List ℕ). AreAnswered replies first (lines_in at.lines) now z) (sym (append-nil text)) at.answered;
            },
            refl,
            is.1,
          ),
        )

    -- the same of the text so far
    pub late_so : length taken ≡ 4294967295 → (left behind : Option (List ℕ)) (piece : List ℕ) → 0 < length piece → Consumes left behind piece
        → (taken_off : List ℕ) × (rest : List ℕ) × Consumes left behind taken_off × IsTold behind rest × Ends replies ends first (taken ++ (taken_off ++ rest)) TooLong text
    late_so full left behind piece some takes =
        let told = told_bytes behind in
        let sum = length-append piece told.0 in
        let is = late (taken ++ (piece ++ told.0)) at.lines at.line (piece ++ told.0) (ap (λ (z : List ℕ). z ++ (piece ++ told.0)) at.cut) at.whole at.solid (ap length (sym at.cut) ∙ full) (omega (arith, some, sum)) in
        (piece, told.0, takes, told.1, (record { before = lines_in at.lines; after = []; parts = ap lines_in is.0 ∙ sym (append-nil (lines_in at.lines)); now = now; answered = at.answered }, refl, is.1))

    pub finished_turn : (left behind before gained : Option (List ℕ)) (end : TurnEnd) → Consumes left behind [] → IsAtEnd behind → (more : List ℕ) → Appends before gained more → Ends replies ends first taken end (text ++ more)
        → EndsTurn replies ends first taken text left behind before gained end
    finished_turn left behind before gained end takes over more appended ended =
        ([], [], more, takes, nothing_left behind over, appended, subst (λ (z : List ℕ). Ends replies ends first z end (text ++ more)) (sym (append-nil taken)) ended)

    pub heard_turn : (left behind before gained : Option (List ℕ)) (piece : List ℕ) (end : TurnEnd) → Consumes left behind piece → length (taken ++ piece) ≤ 4294967295 → EndsHeard replies ends kept now before gained piece end
        → EndsTurn replies ends first taken text left behind before gained end
    heard_turn left behind before gained piece end takes fits heard =
        let told = told_bytes behind in
        let ended = heard first taken text told.0 at fits in
        (piece, told.0, ended.0, takes, told.1, ended.1, ended.2)

-- what an error that is handed on is
pub ends_as : {T : Type 0} (r : Result T TurnEnd) (P : TurnEnd → Type 0) (end : TurnEnd) → IsErr r × IsErrAnd r (λ e. e ≡ end) → P end → IfErr r P
ends_as (Ok x) P end is holds = tt
ends_as (Err e) P end (error, same) holds = subst P (sym same) holds

-- an error that is handed on is the one that came
pub err_is : {T U : Type 0} (r : Result T TurnEnd) (end other : TurnEnd) → IsErr r × IsErrAnd r (λ e. e ≡ end) → IsErrOf r other → IsErrOf {T = U} (Err end) other
err_is (Ok x) end other is failed = absurd is.1
err_is (Err e) end other (error, same) failed = cc

pub error_is : {T : Type 0} (r : Result T TurnEnd) (end other : TurnEnd) → IsErr r × IsErrAnd r (λ e. e ≡ end) → IsErrOf r other → end ≡ other
error_is (Ok x) end other is failed = absurd is.1
error_is (Err e) end other (error, same) failed = cc

-- and the other way
pub err_back : {T U : Type 0} (r : Result T TurnEnd) (end other : TurnEnd) → IsErr r × IsErrAnd r (λ e. e ≡ end) → IsErrOf {T = U} (Err end) other → IsErrOf r other
err_back (Ok x) end other is failed = absurd is.1
err_back (Err e) end other (error, same) failed = cc

-- where no error but one comes, what follows where all went well follows but for that error
pub unless_failed : {T : Type 0} (r : Result T TurnEnd) (end : TurnEnd) (P : TurnEnd → Type 0) (Q : Type 0) → IfErr r (λ e. (e ≡ end) × P e) → (IsOk r → Q) → ¬ IsErrOf r end → Q
unless_failed (Ok x) end P Q err ok other = ok refl
unless_failed (Err e) end P Q (is, more) ok other = absurd (other (cc))

-- a front of so many bytes was taken off
pub few_taken : (most : ℕ) (left behind : Option (List ℕ)) (count : ℕ) (bytes : List ℕ) → count ≤ length bytes → length bytes ≤ most → Consumes left behind (take count bytes) → TakesAtMost most left behind
few_taken most left behind count bytes within few takes = let size = length-take count bytes in (take count bytes, omega (arith, size, within, few), takes)

-- what follows where all went well, and where it didn't
pub on_ok_so : {T E : Type 0} (r : Result T E) (P Q : Type 0) → (P → Q) → OnOk r P → OnOk r Q
on_ok_so (Ok x) P Q so holds = so holds
on_ok_so (Err e) P Q so holds = tt

pub both_on_ok : {T E : Type 0} (r : Result T E) (P Q : Type 0) → OnOk r P → OnOk r Q → OnOk r (P × Q)
both_on_ok (Ok x) P Q one other = (one, other)
both_on_ok (Err e) P Q one other = tt

pub on_ok_all : {T E : Type 0} (r : Result T E) (P : Type 0) → P → OnOk r P
on_ok_all (Ok x) P holds = holds
on_ok_all (Err e) P holds = tt

pub if_err_so : {T E : Type 0} (r : Result T E) (P Q : E → Type 0) → ((e : E) → P e → Q e) → IfErr r P → IfErr r Q
if_err_so (Ok x) P Q so holds = tt
if_err_so (Err e) P Q so holds = so e holds

-- what is kept of a line, as far as it tells something
pub kept_more : (kept bytes : List ℕ) (room : ℕ) → length kept ≤ 202 → room ≡ min (202 - length kept) (length bytes) → kept ++ take room bytes ≡ take 202 (kept ++ bytes)
kept_more kept bytes room fits is =
    elim (cases_lt (length bytes) (202 - length kept)) [
      | inl few ↦ (
          let all : room ≡ length bytes = omega (arith, is, few) in
          ap (λ (n : ℕ). kept ++ take n bytes) all ∙ ap (λ (z : List ℕ). kept ++ z) (take_all (length bytes) bytes (omega arith) ∙ sym (take_all (202 - length kept) bytes (omega (arith, few)))) ∙ sym (front_taken 202 kept bytes fits))
      | inr more ↦ (
          let some : room ≡ 202 - length kept = omega (arith, is, more) in
          ap (λ (n : ℕ). kept ++ take n bytes) some ∙ sym (front_taken 202 kept bytes fits))
    ]

abbrev with_kept : List ℕ → ℕ → Heard
with_kept kept taken = record { kept = kept; taken = taken }

pub kept_now : (now : Heard) (inside kept bytes : List ℕ) (taken : ℕ) → with_kept inside taken ≡ now → kept ≡ take 202 (inside ++ bytes) → with_kept kept taken ≡ with_kept (take 202 (now.kept ++ bytes)) now.taken
kept_now now inside kept bytes taken view is = ap (λ (k : List ℕ). with_kept k taken) is ∙ ap (λ (h : Heard). with_kept (take 202 (h.kept ++ bytes)) h.taken) view
