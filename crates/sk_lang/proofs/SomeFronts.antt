-- Each text has a front, or a refusal of it.
use Rattle.std.proofs.Common.{◌≡◌, ◌⊎◌, inl, inr, refl, ℕ, zero, suc, ◌+◌, ◌-◌, ◌<◌, ◌≤◌, Bool, true, false, List, [], ◌∷◌, ◌++◌, length, length-append, append_assoc, append-nil, ap, sym, subst, ◌∙◌, Option, None, Some, take, drop, take-take, arith}
use Rattle.std.specs.Prelude.{position}
use Rattle.std.proofs.Math.Seq.{take-append_seam}
use Rattle.std.proofs.lemmas.Bool.{cases_lt}
use Rattle.std.proofs.lemmas.List.{take_all, take-append-drop, length-take-le}
use Rattle.sk_base.specs.declared.Sketch.{Sketch}
use Rattle.sk_lines.specs.declared.Code.{Code}
use Rattle.sk_lang.specs.declared.front.Front.{Front}
use Rattle.sk_lang.specs.Front.{has_ended_by, ReadsFront, RefusesFront}
use Rattle.sk_lines.specs.LineCodes.{along, HaveNone, HasFirst}
use Rattle.sk_lines.specs.Lines.{is_line_feed, lines_in, EndsLine, IsFirstLine}
use Rattle.sk_lang.specs.Reading.{has_ended, HasFirstCode, Reads, Refuses, TooLong, Empty, AtLine, NoEnd}
use Rattle.sk_lang.proofs.Answered.{all_blank, some_answer}
use Rattle.sk_lines.proofs.WholeLines.{last_line, line_of_many, lines_in-append}

-- ---- the first lines of a text

-- a text has a first line, unless it is empty
first_of : (b : ℕ) (bs : List ℕ) → (line : List ℕ) × (after : List ℕ) × IsFirstLine (b ∷ bs) line after
first_of b bs = told (position is_line_feed (b ∷ bs)) refl
  where
    told : (place : Option ℕ) → position is_line_feed (b ∷ bs) ≡ place → (line : List ℕ) × (after : List ℕ) × IsFirstLine (b ∷ bs) line after
    told None is = (_, _, last_line (b ∷ bs) (omega arith) is)
    told (Some end) is = (_, _, line_of_many (b ∷ bs) end is)

shorter : (bytes line after : List ℕ) → IsFirstLine bytes line after → length after < length bytes
shorter bytes line after first = by first.taken first.cut first.only
  where
    by : (taken : List ℕ) → bytes ≡ taken ++ after → lines_in taken ≡ line ∷ [] → length after < length bytes
    by [] cut only = (let never : [] ≡ line ∷ [] = only in absurd (cc))
    by (b ∷ bs) cut only = (let size = ap length cut ∙ length-append (b ∷ bs) after in omega (arith, size))

-- the text up to and with its first k lines
record HasLines (bytes : List ℕ) (k : ℕ) : Type 0 where
  front : List ℕ
  rest : List ℕ
  cut : bytes ≡ front ++ rest
  ends : EndsLine front ⊎ (rest ≡ [])
  lines : lines_in front ≡ take k (lines_in bytes)

ends_both : (xs ys : List ℕ) → EndsLine xs → EndsLine ys → EndsLine (xs ++ ys)
ends_both xs ys first (inl none) = subst (λ zs. EndsLine zs) (sym (ap (λ zs. xs ++ zs) none ∙ append-nil xs)) first
ends_both xs ys first (inr (before, is)) = inr (xs ++ before, ap (λ zs. xs ++ zs) is ∙ sym (append_assoc xs before (10 ∷ [])))

more_lines : (bytes line after : List ℕ) (k : ℕ) → IsFirstLine bytes line after → k ≤ length (lines_in after) ⊎ (after ≡ []) → HasLines after k → suc k ≤ length (lines_in bytes) → HasLines bytes (suc k)
more_lines bytes line after k first few further within = by first.ends
  where
    whole : EndsLine first.taken → lines_in bytes ≡ line ∷ lines_in after
    whole ends = ap lines_in first.cut ∙ lines_in-append first.taken after ends ∙ ap (λ ls. ls ++ lines_in after) first.only

    by : EndsLine first.taken ⊎ (after ≡ []) → HasLines bytes (suc k)
    by (inl ends) = record {
      front = first.taken ++ further.front;
      rest = further.rest;
      cut = first.cut ∙ ap (λ bs. first.taken ++ bs) further.cut ∙ sym (append_assoc first.taken further.front further.rest);
      ends = elim further.ends [ inl line_end ↦ inl (ends_both first.taken further.front ends line_end) | inr none ↦ inr none ];
      lines = lines_in-append first.taken further.front ends ∙ ap (λ ls. ls ++ lines_in further.front) first.only ∙ ap (λ ls. line ∷ ls) further.lines
          ∙ ap (λ ls. take (suc k) ls) (sym (whole ends));
    }
    by (inr none) = (
        let all : bytes ≡ first.taken = first.cut ∙ ap (λ bs. first.taken ++ bs) none ∙ append-nil first.taken in
        let only : lines_in bytes ≡ line ∷ [] = ap lines_in all ∙ first.only in
        record { front = bytes; rest = []; cut = sym (append-nil bytes); ends = inr refl; lines = sym (take_all (suc k) (lines_in bytes) (let size = ap length only in omega (arith, size))) })

has_lines : (most : ℕ) (bytes : List ℕ) (k : ℕ) → length bytes ≤ most → k ≤ length (lines_in bytes) → HasLines bytes k
has_lines most bytes zero few within = record { front = []; rest = bytes; cut = refl; ends = inl (inl refl); lines = refl }
has_lines most [] (suc k) few within = absurd (omega arith)
has_lines zero (b ∷ bs) (suc k) few within = absurd (omega arith)
has_lines (suc most) (b ∷ bs) (suc k) few within =
    let first = first_of b bs in
    let less = shorter (b ∷ bs) first.0 first.1 first.2 in
    elim first.2.ends [
      | inl ends ↦ (
          let lines : lines_in (b ∷ bs) ≡ first.0 ∷ lines_in first.1 =
          ap lines_in first.2.cut ∙ lines_in-append first.2.taken first.1 ends ∙ ap (λ ls. ls ++ lines_in first.1) first.2.only in
          let size = ap length lines in
          let there : k ≤ length (lines_in first.1) = omega (arith, size) in
          more_lines (b ∷ bs) first.0 first.1 k first.2 (inl there) (has_lines most first.1 k (omega arith) there) within)
      | inr none ↦ more_lines (b ∷ bs) first.0 first.1 k first.2 (inr none)
          (record { front = []; rest = first.1; cut = refl; ends = inl (inl refl); lines = sym (ap (λ (bytes : List ℕ). take k (lines_in bytes)) none ∙ nothing k) }) within
    ]
  where
    nothing : (n : ℕ) → take n (lines_in []) ≡ []
    nothing zero = refl
    nothing (suc n) = refl

-- ---- codes along lines

-- where no line has a code, none is the first with one
none_first : {P : Type 0} (code_of : P → List ℕ → Option Code) (lead : P → List ℕ → P) (start : P) (lines before : List (List ℕ)) (line : List ℕ) (after : List (List ℕ)) (code : Code)
    → HaveNone code_of lead start lines → lines ≡ before ++ line ∷ after → HasFirst code_of lead start lines before line code → ⊥
none_first {P} code_of lead start lines before line after code none parts first = by before start lines after none parts first.code_is
  where
    by : (before : List (List ℕ)) (start : P) (lines after : List (List ℕ)) → HaveNone code_of lead start lines → lines ≡ before ++ line ∷ after → code_of (along lead start before) line ≡ Some code → ⊥
    by [] start lines after none is coded = (let here = subst (λ ls. HaveNone code_of lead start ls) is none in let never = sym here.0 ∙ coded in cc)
    by (b ∷ bs) start lines after none is coded = (let here = subst (λ ls. HaveNone code_of lead start ls) is none in by bs (lead start b) (bs ++ line ∷ after) after here.1 refl coded)

-- no line is the first with a code
abbrev NoFirst : List (List ℕ) → Type 0
NoFirst lines = (before : List (List ℕ)) (line : List ℕ) (code : Code) → HasFirstCode lines before line code → ⊥

first_longer : {P : Type 0} {code_of : P → List ℕ → Option Code} {lead : P → List ℕ → P} {start : P} (lines more before : List (List ℕ)) (line : List ℕ) (code : Code)
    → HasFirst code_of lead start lines before line code → HasFirst code_of lead start (lines ++ more) before line code
first_longer lines more before line code first = record {
  after = first.after ++ more;
  parts = ap (λ ls. ls ++ more) first.parts ∙ append_assoc before (line ∷ first.after) more;
  clean = first.clean;
  code_is = first.code_is;
}

none_in_front : (lines more : List (List ℕ)) → NoFirst (lines ++ more) → NoFirst lines
none_in_front lines more none before line code first = none before line code (first_longer lines more before line code first)

none_in_take : (k : ℕ) (lines : List (List ℕ)) → NoFirst lines → NoFirst (take k lines)
none_in_take k lines none = none_in_front (take k lines) (drop k lines) (subst (λ ls. NoFirst ls) (sym (take-append-drop k lines)) none)

-- ---- the front

-- the least number at which the test passes
least_true : (f : ℕ → Bool) (n : ℕ) → f n ≡ true → (k : ℕ) × (k ≤ n) × (f k ≡ true) × ((k ≡ 0) ⊎ (f (k - 1) ≡ false))
least_true f zero passes = (0, omega arith, passes, inl refl)
least_true f (suc n) passes = told (λ before. least_true f n before) (f n) refl
  where
    told : (f n ≡ true → (k : ℕ) × (k ≤ n) × (f k ≡ true) × ((k ≡ 0) ⊎ (f (k - 1) ≡ false))) → (b : Bool) → f n ≡ b → (k : ℕ) × (k ≤ suc n) × (f k ≡ true) × ((k ≡ 0) ⊎ (f (k - 1) ≡ false))
    told earlier true is = (let rest = earlier is in (rest.0, (let few = rest.1 in omega arith), rest.2, rest.3))
    told earlier false is = (suc n, omega arith, passes, inr (subst (λ (m : ℕ). f m ≡ false) (let level : n ≡ suc n - 1 = omega arith in level) is))

module _ (bytes : List ℕ) (fits : length bytes ≤ 1048576) where
  front_reads : (part : List ℕ) (k : ℕ) → length part ≤ 1048576 → lines_in part ≡ take k (lines_in bytes) → NoFirst (lines_in part) → has_ended_by k bytes ≡ true → (s : Sketch) × Reads part s
  front_reads part k short lines clean ended =
      elim (some_answer part) [
        | inl reads ↦ reads
        | inr (n, (code, refuses)) ↦ absurd (never n code refuses)
      ]
    where
      never : (n : ℕ) (code : Code) → Refuses part n code → ⊥
      never n code (TooLong long) = omega arith
      never n code (Empty fine blank) = (let unended = ap has_ended (all_blank (lines_in part) blank).1 in let same = rw lines at unended in cc)
      never n code (AtLine fine words before line c first) = clean before line c first
      never n code (NoEnd fine words none unended) = (let same = rw lines at unended in cc)

  front_at : (k : ℕ) → k ≤ length (lines_in bytes) → NoFirst (take k (lines_in bytes)) → has_ended_by k bytes ≡ true → has_ended_by (k - 1) bytes ≡ false → (f : Front) × ReadsFront bytes f
  front_at k within clean ended unended =
      let part = has_lines (length bytes) bytes k (omega arith) within in
      let used : ℕ = length part.front in
      let taken : take used bytes ≡ part.front = ap (take used) part.cut ∙ take-append_seam part.front part.rest in
      let size = ap length part.cut ∙ length-append part.front part.rest in
      let reads = front_reads part.front k (omega (arith, size)) part.lines (subst (λ ls. NoFirst ls) (sym part.lines) clean) ended in
      let count : k ≡ length (lines_in part.front) = sym (length-take-le k (lines_in bytes) within) ∙ ap length (sym part.lines) in (
        record { sketch = reads.0; used = used; lines = k },
        record {
          fits = fits;
          within = omega (arith, size);
          whole = elim part.ends [
            | inl line_end ↦ inl (subst (λ bs. EndsLine bs) (sym taken) line_end)
            | inr none ↦ inr (let nothing = ap length none in omega (arith, size, nothing))
          ];
          reads = subst (λ bs. Reads bs reads.0) (sym taken) reads.1;
          count = count ∙ ap (λ bs. length (lines_in bs)) (sym taken);
          last = unended;
        },
      )

  -- the sketch ends within clean lines
  front_within : (n : ℕ) → n ≤ length (lines_in bytes) → NoFirst (take n (lines_in bytes)) → has_ended_by n bytes ≡ true → (f : Front) × ReadsFront bytes f
  front_within n within clean ended =
      let found = least_true (λ k. has_ended_by k bytes) n ended in
      let k = found.0 in
      let few = found.1 in
      let clean_there : NoFirst (take k (lines_in bytes)) = subst (λ ls. NoFirst ls) (take-take k n (lines_in bytes) few) (none_in_take k (take n (lines_in bytes)) clean) in
      elim found.3 [
        | inl none ↦ absurd (let at_start : has_ended_by 0 bytes ≡ true = subst (λ (j : ℕ). has_ended_by j bytes ≡ true) none found.2 in let never : false ≡ true = at_start in cc)
        | inr unended ↦ front_at k (omega arith) clean_there found.2 unended
      ]

  abbrev SomeFrontHere : Type 0
  SomeFrontHere = ((f : Front) × ReadsFront bytes f) ⊎ ((n : ℕ) × ((code : Code) × RefusesFront bytes n code))

  read_whole : (s : Sketch) → Reads bytes s → SomeFrontHere
  read_whole s reads =
      let n = length (lines_in bytes) in
      let all : take n (lines_in bytes) ≡ lines_in bytes = take_all n (lines_in bytes) (omega arith) in
      let ended : has_ended_by n bytes ≡ true = rw all (ap has_ended reads.ended) in
      inl (front_within n (omega arith) (subst (λ ls. NoFirst ls) (sym all) (λ before line code first. none_first _ _ _ (lines_in bytes) before line first.after code reads.clean first.parts first)) ended)

  refused_within : (n : ℕ) (code : Code) → Refuses bytes n code → has_ended_by (n - 1) bytes ≡ true → (f : Front) × ReadsFront bytes f
  refused_within n code (TooLong long) ended = absurd (omega arith)
  refused_within n code (Empty fine blank) ended = absurd (let never : false ≡ true = ended in cc)
  refused_within n code (NoEnd fine words none unended) ended =
      let count : length (lines_in bytes) + 1 - 1 ≡ length (lines_in bytes) = omega arith in
      let all : take (length (lines_in bytes)) (lines_in bytes) ≡ lines_in bytes = take_all (length (lines_in bytes)) (lines_in bytes) (omega arith) in
      front_within (length (lines_in bytes)) (omega arith)
      (subst (λ ls. NoFirst ls) (sym all) (λ before line c first. none_first _ _ _ (lines_in bytes) before line first.after c none first.parts first))
      (subst (λ (j : ℕ). has_ended_by j bytes ≡ true) count ended)
  refused_within n code (AtLine fine words before line c first) ended =
      let count : length before + 1 - 1 ≡ length before = omega arith in
      let front : take (length before) (lines_in bytes) ≡ before = ap (take (length before)) first.parts ∙ take-append_seam before (line ∷ first.after) in
      let size = ap length first.parts ∙ length-append before (line ∷ first.after) in
      front_within (length before) (omega (arith, size))
      (subst (λ ls. NoFirst ls) (sym front) (λ b l k f. none_first _ _ _ before b l f.after k first.clean f.parts f))
      (subst (λ (j : ℕ). has_ended_by j bytes ≡ true) count ended)

  refused : (n : ℕ) (code : Code) → Refuses bytes n code → SomeFrontHere
  refused n code refuses = told (has_ended_by (n - 1) bytes) refl
    where
      told : (b : Bool) → has_ended_by (n - 1) bytes ≡ b → SomeFrontHere
      told true is = inl (refused_within n code refuses is)
      told false is = inr (n, (code, record { refuses = refuses; before_end = is }))

  fitting_front : SomeFrontHere
  fitting_front = elim (some_answer bytes) [ inl (s, reads) ↦ read_whole s reads | inr (n, (code, refuses)) ↦ refused n code refuses ]

pub some_front : (bytes : List ℕ) → ((f : Front) × ReadsFront bytes f) ⊎ ((n : ℕ) × ((code : Code) × RefusesFront bytes n code))
some_front bytes =
    elim (cases_lt 1048576 (length bytes)) [
      | inl long ↦ inr (_, (_, record { refuses = TooLong long; before_end = refl }))
      | inr fits ↦ fitting_front bytes fits
    ]
